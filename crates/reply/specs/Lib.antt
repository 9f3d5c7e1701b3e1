pub mod Reply
pub mod Replies
