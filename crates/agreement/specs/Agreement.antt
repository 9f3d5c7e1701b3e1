-- Condition 3 (document 01), one claim over all streams, starts and positions, about what the calls return.
use Rattle.std.specs.Prelude.{ℕ, ◌≤◌, ◌≡◌, List, [], length, reverse, Result, Ok, Err}
use Rattle.std.specs.Result.{result_unwrap_or}
use Rattle.common.specs.declared.Refusal.{Refusal}
use Rattle.common.specs.declared.Refusal.TheVariants.{NothingThere}
use Rattle.constants.specs.declared.Role.TheVariants.{Opens}
use Rattle.iter.specs.Reading.{read_of, OneOf, Begins}
use Rattle.constants.specs.Raw.{nesting_role_of}
use Rattle.chain.specs.declared.Found.{Found}
use Rattle.check_nesting.specs.declared.Counts.{Counts}
use Rattle.check_nesting.specs.Check.{check_of}
use Rattle.walk.specs.Walk.{walk_from, walk_of}
use Rattle.jump.specs.Jump.{jump_of}
use Rattle.climb.specs.Climb.{climb_of}
use Rattle.agreement.specs.declared.Answers.{Answers}

-- A scope opener is a record of a kind that the check takes as an opener.
abbrev pub OpenerBegins : List ℕ → ℕ → ℕ → Type 0
OpenerBegins s start i = OneOf (λ r. (r.index ≡ i) × (nesting_role_of r.bytes ≡ Opens)) (read_of s start).recs

-- The enclosing scopes at a position are the positions on the walk rule's stack when it reads the record there, before that record is
-- pushed or pops, outermost first.
abbrev pub enclosing : List ℕ → ℕ → ℕ → List ℕ
enclosing s start i = reverse (result_unwrap_or (walk_from i (read_of s start) []).out [])

-- a finder answers with these scopes and this count
abbrev pub Finds : Result Found Refusal → List ℕ → ℕ → Type 0
Finds found scopes count = found ≡ Ok (record { chain = scopes; count = count })

-- Jumping and walking both answer, with the same enclosing scopes in the same order, and jumping returns no greater number of records
-- read than walking. (An equal list is an equal chain, count and unused places included.)
pub record BothAnswer (scopes : List ℕ) (walked jumped : Result Found Refusal) : Type 0 where
  pub walking_reads : ℕ
  pub jumping_reads : ℕ
  pub walking_finds : Finds walked scopes walking_reads
  pub jumping_finds : Finds jumped scopes jumping_reads
  pub jumping_reads_no_more : jumping_reads ≤ walking_reads

-- Both refuse, alike, with 14, which carries position 0 from both finders.
pub record BothRefuse (walked jumped : Result Found Refusal) : Type 0 where
  pub walking_refuses : walked ≡ Err NothingThere
  pub jumping_refuses : jumped ≡ Err NothingThere

-- The parent fields, climbed, give that list reversed, without a refusal and with as many links as the list has scopes.
abbrev pub ClimbsThem : List ℕ → Result Found Refusal → Type 0
ClimbsThem scopes climbed = Finds climbed (reverse scopes) (length scopes)

pub record Agreement (s : List ℕ) (start i : ℕ) (a : Answers) : Type 0 where
  pub if_a_record_begins : Begins s start i → BothAnswer (enclosing s start i) a.walked a.jumped
  pub if_none_begins : (Begins s start i → ⊥) → BothRefuse a.walked a.jumped
  pub if_an_opener_begins : OpenerBegins s start i → ClimbsThem (enclosing s start i) a.climbed

-- For every stream, every start from which it passes the nesting check, and every position, the answers agree.
abbrev pub Condition3 : List ℕ → ℕ → ℕ → Answers → Type 0
Condition3 s start i a = (n : Counts) → a.checked ≡ Ok n → Agreement s start i a

-- what the four calls return
abbrev pub answers_of : List ℕ → ℕ → ℕ → Answers
answers_of s start i =
    record { checked = check_of s start; walked = walk_of s start i; jumped = jump_of s start i; climbed = climb_of s i }
