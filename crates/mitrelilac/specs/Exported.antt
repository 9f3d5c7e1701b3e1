-- What documents 01 and 02 say of what the calls return, said of what C receives: the numbers that the exported functions return, and the words
-- of `out` as they are afterwards.
use Rattle.std.specs.Prelude.{ℕ, ◌+◌, ◌-◌, ◌<◌, ◌≤◌, ◌≡◌, List, [], ◌∷◌, length, take, drop, reverse, get_or}
use Rattle.iter.specs.Step.{within}
use Rattle.iter.specs.Reading.{Begins}
use Rattle.squeezing.specs.Squeeze.{squeeze_of}
use Rattle.squeezing.specs.Squeezes.{Squeezes}
use Rattle.squeezing.specs.Foretells.{Foretold}
use Rattle.agreement.specs.Agreement.{OpenerBegins, enclosing}
use Rattle.reply.specs.Replies.{squeeze_reply, chain_words}

-- what a call returned, and the words that were lent to it, as they are afterwards
pub record Call : Type 0 where
  pub returned : ℕ
  pub out : List ℕ

abbrev pub call : ℕ → List ℕ → Call
call returned out = record { returned = returned; out = out }

-- Check, where it returned 0: the two byte sums, out[1] and out[3], add up to stream length minus start, the start brought within the stream.
abbrev pub SumsUp : List ℕ → ℕ → Call → Type 0
SumsUp s start check = check.returned ≡ 0 → get_or check.out 1 0 + get_or check.out 3 0 ≡ length s - within s start

-- Annotation, where it returned 0 and out[0] is 1: the next position, out[4], is behind the one that was asked, and within the bytes.
abbrev pub CallMovesOn : List ℕ → ℕ → Call → Type 0
CallMovesOn s at annotation =
    annotation.returned ≡ 0 → get_or annotation.out 0 0 ≡ 1 →
    (at < get_or annotation.out 4 0) × (get_or annotation.out 4 0 ≤ length s)

-- Squeeze, where it returned 0: the first bytes of the buffer, as many as out[0] says, are the squeezed stream.
abbrev pub CallSqueezes : List ℕ → ℕ → Call → List ℕ → Type 0
CallSqueezes s start squeeze buffer = squeeze.returned ≡ 0 → Squeezes s start (take (get_or squeeze.out 0 0) buffer)

-- Preview: where it returned 0, its words are what squeezing the same stream from the same start gives. Where it returned neither 0 nor 14,
-- squeezing returns the same number and writes the same two words, whatever the room.
pub record CallForetells (s : List ℕ) (start i : ℕ) (preview : Call) : Type 0 where
  pub answered : preview.returned ≡ 0 →
      Foretold s start i (record { length = get_or preview.out 0 0; dropped = get_or preview.out 1 0; at = get_or preview.out 2 0 })
  pub refused : ¬ (preview.returned ≡ 0) → ¬ (preview.returned ≡ 14) →
      (room : ℕ) → squeeze_reply (squeeze_of s start room) ≡ record { number = preview.returned; words = take 2 preview.out }

-- The words of a finder's answer: out[0] is its count, and from out[1] on, 65 words, stand how many scopes there are and the 64 places
-- (`chain_words`).
abbrev pub count : Call → ℕ
count c = get_or c.out 0 0

abbrev pub chain_told : Call → List ℕ
chain_told c = take 65 (drop 1 c.out)

-- Jumping and walking both answer, with the same enclosing scopes in the same order, and jumping returns no greater number of records
-- read than walking.
pub record CallsAnswer (enclosed : List ℕ) (walk jump : Call) : Type 0 where
  pub walking_answers : walk.returned ≡ 0
  pub jumping_answers : jump.returned ≡ 0
  pub walking_finds : chain_told walk ≡ chain_words enclosed
  pub jumping_finds : chain_told jump ≡ chain_words enclosed
  pub jumping_reads_no_more : count jump ≤ count walk

-- Both refuse, alike, with 14: position 0 and detail 0.
pub record CallsRefuse (walk jump : Call) : Type 0 where
  pub walking_refuses : walk.returned ≡ 14
  pub jumping_refuses : jump.returned ≡ 14
  pub walking_at_0 : take 2 walk.out ≡ 0 ∷ 0 ∷ []
  pub jumping_at_0 : take 2 jump.out ≡ 0 ∷ 0 ∷ []

-- The parent fields, climbed, give that list reversed, without a refusal and with as many links as the list has scopes.
pub record ClimbCallFinds (enclosed : List ℕ) (climb : Call) : Type 0 where
  pub climbing_answers : climb.returned ≡ 0
  pub climbing_finds : chain_told climb ≡ chain_words (reverse enclosed)
  pub as_many_links : count climb ≡ length enclosed

-- Condition 3: where the check returned 0, the three finders agree. (What it is that a record or an opener begins, and what the enclosing
-- scopes are, stands in crate agreement.)
pub record CallsAgree (s : List ℕ) (start i : ℕ) (walk jump climb : Call) : Type 0 where
  pub if_a_record_begins : Begins s start i → CallsAnswer (enclosing s start i) walk jump
  pub if_none_begins : (Begins s start i → ⊥) → CallsRefuse walk jump
  pub if_an_opener_begins : OpenerBegins s start i → ClimbCallFinds (enclosing s start i) climb

abbrev pub CallsMeetCondition3 : List ℕ → ℕ → ℕ → ℕ → Call → Call → Call → Type 0
CallsMeetCondition3 s start i checked walk jump climb = checked ≡ 0 → CallsAgree s start i walk jump climb
