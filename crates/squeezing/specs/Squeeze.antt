-- Squeezing out filler (document 02, M-103).
use Rattle.std.specs.Prelude.{ℕ, ◌+◌, List, [], ◌∷◌, ◌++◌, length, take, drop, cond, ◌||◌, ltb, eqb, Option, None, Some, unwrap_or, is_some, Result, Ok, Err}
use Rattle.std.specs.Result.{result_and}
use Rattle.common.specs.Bytes.{put}
use Rattle.common.specs.declared.Refusal.{Refusal}
use Rattle.common.specs.declared.Refusal.TheVariants.{WrongNext, NoRoom}
use Rattle.constants.specs.Raw.{nesting_role_of}
use Rattle.constants.specs.declared.Role.{Role}
use Rattle.constants.specs.declared.Role.TheVariants.{Neither, Opens, Closes}
use Rattle.iter.specs.Reading.{Rec, read_of}
use Rattle.links.specs.Links.{links_of, with_links}
use Rattle.links.specs.declared.Links.{Links}
use Rattle.check_nesting.specs.Check.{Verdict, size, check_of}

-- Where the record of index i lands, where these records are laid one behind the other from a position on; none where none has that index.
unfoldable pub lands_from : ℕ → List Rec → ℕ → Option ℕ
lands_from at [] i = None
lands_from at (r ∷ rs) i = cond (eqb r.index i) (Some at) (lands_from (at + size r) rs i)

-- What stays in front: all before the first record, the fillers there too. "A stream that yields no record is copied whole."
abbrev pub first_in : List ℕ → List Rec → ℕ
first_in s [] = length s
first_in s (r ∷ rs) = r.index

unfoldable pub first_of : List ℕ → ℕ → ℕ
first_of s start = first_in s (read_of s start).recs

-- "0 stays": a link, moved to where the record that it names lands
abbrev pub moved_link : (ℕ → Option ℕ) → ℕ → ℕ
moved_link to x = cond (eqb x 0) 0 (unwrap_or (to x) 0)

-- "Parent and end of every opener, and next of procedures and thunks, are moved to the new positions"
abbrev pub moved_links : (ℕ → Option ℕ) → Links → Links
moved_links to l = record { parent = moved_link to l.parent; end = moved_link to l.end; next = moved_link to l.next }

-- the links of a record: None where it is no opener
abbrev pub links_by_role : Role → List ℕ → Option Links
links_by_role Opens bytes = links_of bytes
links_by_role Closes bytes = None
links_by_role Neither bytes = None

unfoldable pub record_links : List ℕ → Option Links
record_links bytes = links_by_role (nesting_role_of bytes) bytes

abbrev pub moved_by : (ℕ → Option ℕ) → List ℕ → Option Links → List ℕ
moved_by to bytes (Some l) = with_links (moved_links to l) bytes
moved_by to bytes None = bytes

-- a record with its links moved
unfoldable pub moved : (ℕ → Option ℕ) → List ℕ → List ℕ
moved to bytes = moved_by to bytes (record_links bytes)

-- the records with their length fields, their links moved, one behind the other
unfoldable pub row : List ℕ → (ℕ → Option ℕ) → List Rec → List ℕ
row s to [] = []
row s to (r ∷ rs) = take 2 (drop r.index s) ++ moved to r.bytes ++ row s to rs

-- the stream, squeezed: what stays in front, as many bytes as `first` says, and these records
unfoldable pub squeezed_from : List ℕ → ℕ → List Rec → List ℕ
squeezed_from s first rs = take first s ++ row s (lands_from first rs) rs

unfoldable pub squeezed : List ℕ → ℕ → List ℕ
squeezed s start = squeezed_from s (first_of s start) (read_of s start).recs

-- the next of a record, 0 where it has none
abbrev pub next_by : Option Links → ℕ
next_by (Some l) = l.next
next_by None = 0

-- "17 for a nonzero next that names no yielded record, at its opener (.. of several the first in the stream)"
unfoldable pub nexts_of : (ℕ → Option ℕ) → List Rec → Verdict
nexts_of to [] = Ok tt
nexts_of to (r ∷ rs) =
    let next = next_by (record_links r.bytes) in
    cond (eqb next 0 || is_some (to next)) (nexts_of to rs) (Err (WrongNext r.index))

-- where each record lands: the first where it is
abbrev pub landings : List ℕ → ℕ → ℕ → Option ℕ
landings s start = lands_from (first_of s start) (read_of s start).recs

-- "Checks: after the check's own, 17": whether a stream can be squeezed, if there is room
unfoldable pub squeezable : List ℕ → ℕ → Verdict
squeezable s start = result_and (check_of s start) (nexts_of (landings s start) (read_of s start).recs)

-- "then 18 if the buffer is too short"
abbrev pub fitting : ℕ → ℕ → Result ℕ Refusal
fitting n room = cond (ltb room n) (Err NoRoom) (Ok n)

-- "the answer is the length written"
unfoldable pub squeeze_of : List ℕ → ℕ → ℕ → Result ℕ Refusal
squeeze_of s start room = result_and (squeezable s start) (fitting (length (squeezed s start)) room)

-- "Bytes beyond it, or all after a refusal, keep their values": what the buffer holds after the call
abbrev pub buffer_by : Result ℕ Refusal → List ℕ → List ℕ → List ℕ
buffer_by (Ok n) written buffer = put 0 written buffer
buffer_by (Err e) written buffer = buffer
