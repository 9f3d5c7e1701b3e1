-- The text of a listing, line by line as steps go on.
-- Assumes nothing.
use Rattle.std.proofs.Common.{ℕ, ◌+◌, ◌-◌, ◌*◌, ◌≤◌, ◌<◌, ◌≡◌, refl, sym, ap, ◌∙◌, arith, List, [], ◌++◌, length, take, drop, append_assoc, append-nil, length-take, Ok, Err}
use borrow.Author.Tests.{lt-ltb, le-ltb}
use Rattle.common.specs.declared.Refusal.{Refusal}
use Rattle.common.specs.declared.Refusal.TheVariants.{TooLong}
use Rattle.iter.specs.Step.{step_of}
use Rattle.iter.specs.Reading.{ends, refuses, read_of}
use Rattle.iter.specs.declared.Next.{Next}
use Rattle.iter.specs.declared.Record.{Record}
use Rattle.iter.specs.declared.Next.TheVariants as N
use Rattle.iter.proofs.Reading.{step_fits, read_by}
use Rattle.iter.proofs.Steps.{record_of, next_within, lent_kind, lent_bytes}
use Rattle.listing.specs.Listing.{line_of, refused_line, lines_of, text_of, max_listed, listed_from, listing_of}
use Rattle.listing.specs.Puts.{Puts, Writes}
use Rattle.listing.specs.declared.text.Text.{Text}
use Rattle.listing.proofs.Lines.{line_most}
use Rattle.listing.proofs.Writing.{then_lem}

-- The loop's invariant: `done` is written, and what is listed from here on is the rest of the listing.
pub record Listing (s : List ℕ) (before now : Text) (at : ℕ) : Type 0 where
  pub done : List ℕ
  pub empty : before.len ≡ 0
  pub written : Writes done before now
  pub goes_on : done ++ lines_of (read_of s at).recs ≡ lines_of (read_of s listed_from).recs
  pub ending : (read_of s at).last.ending ≡ (read_of s listed_from).last.ending
  pub room : now.len + 52 ≤ 13 * at
  pub within : at ≤ max_listed

pub begins : (s : List ℕ) (text : Text) → text.len ≡ 0 → Listing s text text listed_from
begins s text e =
    record {
      done = [];
      empty = e;
      written = record { puts = record { ends = omega arith; bytes = rw e }; same = refl };
      goes_on = refl;
      ending = refl;
      room = omega arith;
      within = omega arith;
    }

module _ {s : List ℕ} {before now : Text} {at : ℕ} (l : Listing s before now at) where
  -- no record follows, and reading ended so
  last : lines_of (read_of s at).recs ≡ [] → Writes (lines_of (read_of s listed_from).recs) before now
  last none = rw (← l.goes_on, none, append-nil) l.written

  pub at_end : {n : Next} {q : ℕ} → Ok n ≡ step_of s at → n ≡ N.End q → Writes (lines_of (read_of s listed_from).recs) before now × ((read_of s listed_from).last.ending ≡ ends)
  unfolding step_of lines_of
  at_end {q = q} e f = let r = read_by s at (Ok (N.End q)) (sym e ∙ ap Ok f) in (last (rw r), rw (← l.ending, r))

  pub at_refusal : {x : Refusal} → Err x ≡ step_of s at → Writes (lines_of (read_of s listed_from).recs) before now × ((read_of s listed_from).last.ending ≡ refuses x)
  unfolding step_of lines_of
  at_refusal {x} e = let r = read_by s at (Err x) (sym e) in (last (rw r), rw (← l.ending, r))

  module _ {n : Next} {it : Record} (e : Ok n ≡ step_of s at) (f : n ≡ N.Record it) where
    -- the line of a record has room behind the lines before it
    pub line_room : now.len + length (line_of it.index it.kind (take (it.next - it.start) (drop it.start s))) + 52 ≤ 13 * it.next
    line_room =
        let most : length (take (it.next - it.start) (drop it.start s)) ≤ it.next - it.start = simp length-take (omega arith) in
        let y = step_fits s at it (record_of s at e f) in
        omega (arith, line_most it.index it.kind (take (it.next - it.start) (drop it.start s)) (omega arith), l.room)

    pub after_line :
        {now' : Text} → length s ≤ max_listed → Writes (line_of it.index it.kind (take (it.next - it.start) (drop it.start s))) now now' → Listing s before now' it.next
    unfolding lines_of
    after_line small w =
        let r = read_by s at (Ok (N.Record it)) (record_of s at e f) in
        record {
          done = l.done ++ line_of it.index it.kind (take (it.next - it.start) (drop it.start s));
          empty = l.empty;
          written = then_lem l.written w;
          goes_on = rw (append_assoc, lent_kind s at e f, lent_bytes s at e f) (rw r at l.goes_on);
          ending = rw r at l.ending;
          room = omega (arith, w.puts.ends, line_room);
          within = omega (arith, next_within s at e f);
        }

-- What is written is the listing: that of a stream that is too long, of one that is read to its end, and of one where a step refuses.
module _ (s : List ℕ) (before now : Text) where
  pub too_long : max_listed < length s → Writes (refused_line TooLong) before now → Writes (listing_of s) before now
  unfolding listing_of
  too_long h w = rw (lt-ltb max_listed (length s) h) w

  module _ (h : length s ≤ max_listed) (lines : Writes (lines_of (read_of s listed_from).recs) before now) where
    pub to_end : (read_of s listed_from).last.ending ≡ ends → Writes (listing_of s) before now
    unfolding listing_of text_of
    to_end e = rw (le-ltb max_listed (length s) h, e, append-nil) lines

    pub to_refusal : (x : Refusal) (after : Text) → (read_of s listed_from).last.ending ≡ refuses x → Writes (refused_line x) now after → Writes (listing_of s) before after
    unfolding listing_of text_of
    to_refusal x after e w = rw (le-ltb max_listed (length s) h, e) (then_lem lines w)

  pub from_start : Writes (listing_of s) before now → before.len ≡ 0 → Puts (listing_of s) 0 before.bytes.now now.bytes.now now.len
  from_start w e = rw e at w.puts
