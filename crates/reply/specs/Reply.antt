-- How every exported function replies: by the number that it returns and by the words that it writes to those lent to it.
use Rattle.std.specs.Prelude.{ℕ, ◌≡◌, List, [], ◌∷◌, Result, Ok, Err}
use Rattle.common.specs.Refused.{refusal_number, refusal_position, refusal_detail}
use Rattle.common.specs.declared.Refusal.{Refusal}
use Rattle.words.specs.Written.{written}

pub record Reply : Type 0 where
  pub number : ℕ
  pub words : List ℕ

-- The words are written from place 0 on, and every other word stays as it was.
pub record Replied (reply : Reply) (returned : ℕ) (before after : List ℕ) : Type 0 where
  pub number : returned ≡ reply.number
  pub words : after ≡ written reply.words before

-- 0 where the call answers
abbrev pub answers : List ℕ → Reply
answers words = record { number = 0; words = words }

-- A refusal carries its number, its position (0 where none is said), for 3 the kind, for 4 the prefix, for 16 the code, and no more.
abbrev pub refusal_reply : Refusal → Reply
refusal_reply e = record { number = refusal_number e; words = refusal_position e ∷ refusal_detail e ∷ [] }

-- the reply to what a call finds: the words of its answer, or its refusal
abbrev pub reply_by : {A : Type 0} → (A → List ℕ) → Result A Refusal → Reply
reply_by words (Ok a) = answers (words a)
reply_by words (Err e) = refusal_reply e
