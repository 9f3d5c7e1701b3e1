-- Laws of the writing loop: what is written is the squeezed stream, but for the ends of the openers that are not closed yet.
-- Assumes nothing.
use Rattle.std.proofs.Common.{ℕ, ◌+◌, ◌-◌, ◌≤◌, ◌<◌, ◌≡◌, refl, sym, ap, ◌∙◌, subst, arith, List, [], ◌∷◌, ◌++◌, append_assoc, append-nil, map, reverse, length, length-append, length-take-le, length-drop, take, drop, Option, Some, Ok, Err, true, ne_eqb}
use mathlib.Core.List.{tail}
use lib.Seq.{take-add, drop-drop}
use Rattle.std.proofs.lemmas.List.{length-reverse, length-map, reverse-append}
use Rattle.std.proofs.lemmas.Grind.{common_steps}
use Rattle.std.specs.Int.{w32, to_le_bytes}
use Rattle.common.specs.declared.Refusal.{Refusal}
use Rattle.common.specs.Bytes.{put, put_u32}
use Rattle.common.proofs.Bytes.{length_put, put_at_end, put_before}
use Rattle.constants.specs.Raw.{raw_kind, nesting_role_of}
use Rattle.constants.specs.Kind.{nesting_role}
use Rattle.constants.specs.declared.Role.{Role}
use Rattle.constants.specs.declared.Role.TheVariants.{Neither, Opens, Closes}
use Rattle.iter.specs.Step.{scan_of}
use Rattle.iter.specs.Reading.{Rec, Reading, bytes_at, rec_at, read_of}
use Rattle.iter.specs.declared.Record.{Record}
use Rattle.iter.specs.declared.Next.TheVariants as N
use Rattle.iter.proofs.Reading.{step_fits, read_by}
use Rattle.iter.proofs.Records.{kind_of, role_of_lem, rising, bytes-length}
use Rattle.iter.proofs.Rows.{wholes}
use Rattle.links.specs.Links.{has_next, put_parent_and_next, with_links}
use Rattle.links.proofs.Relinked.{links_within, next_within, put_in_record, links_length, links_put}
use Rattle.check_nesting.specs.declared.act.Open.{Open}
use Rattle.check_nesting.proofs.Checks.{popped}
use Rattle.check_nesting.specs.Stack.{open_scope, inner_index}
use Rattle.check_nesting.specs.Nesting.{Nests}
use Rattle.check_nesting.proofs.Heads.{none_open, read_nests, head_read, head_passes, Opened, head_opens, Closed, head_closes}
use Rattle.squeezing.specs.declared.landing.Landing.{Landing}
use Rattle.squeezing.specs.Squeeze.{moved_link, record_links, next_by, moved, row, squeezed_from}
use Rattle.squeezing.specs.Landing.{landing_at, Lands}
use Rattle.squeezing.specs.Plan.{Readable}
use Rattle.squeezing.specs.Write.{innermost}
use Rattle.squeezing.proofs.Moved.{record_links_is, moved_is, moved_length, moved_opener}
use Rattle.squeezing.proofs.Landings.{lands_here, lands_behind, first_lands, lands_within}

-- what is written, with the ends of these openers put in, which are not written yet
unfoldable pub patched : (ℕ → Option ℕ) → List Open → List ℕ → List ℕ
patched to [] out = out
patched to (o ∷ st) out = patched to st (put_u32 (moved_link to o.index + 2 + 6) (moved_link to o.end) out)

-- the ends of these openers stand before a position
abbrev pub Below : (ℕ → Option ℕ) → ℕ → List Open → Type 0
Below to n [] = Unit
Below to n (o ∷ st) = (moved_link to o.index + 2 + 10 ≤ n) × Below to n st

below_more : (to : ℕ → Option ℕ) (st : List Open) {n m : ℕ} → n ≤ m → Below to n st → Below to m st
below_more to [] l b = tt
below_more to (o ∷ st) l b = let h = b.0 in (omega arith, below_more to st l b.1)

module _ (to : ℕ → Option ℕ) where
  patched_length : (st : List Open) (out : List ℕ) → Below to (length out) st → length (patched to st out) ≡ length out
  unfolding patched
  patched_length [] out b = refl
  patched_length (o ∷ st) out b =
      let here : moved_link to o.index + 2 + 10 ≤ length out = b.0 in
      let long = length_put (moved_link to o.index + 2 + 6) (to_le_bytes w32 (moved_link to o.end)) out (omega arith) in
      patched_length st (put_u32 (moved_link to o.index + 2 + 6) (moved_link to o.end) out) (below_more to st (omega arith) b.1) ∙ long

  patched_append : (st : List Open) (out bytes : List ℕ) → Below to (length out) st → patched to st (out ++ bytes) ≡ patched to st out ++ bytes
  unfolding patched
  patched_append [] out bytes b = refl
  patched_append (o ∷ st) out bytes b =
      let here : moved_link to o.index + 2 + 10 ≤ length out = b.0 in
      let long = length_put (moved_link to o.index + 2 + 6) (to_le_bytes w32 (moved_link to o.end)) out (omega arith) in
      ap (patched to st) (put_before out (to_le_bytes w32 (moved_link to o.end)) bytes (moved_link to o.index + 2 + 6) (omega arith))
      ∙ patched_append st (put_u32 (moved_link to o.index + 2 + 6) (moved_link to o.end) out) bytes (below_more to st (omega arith) b.1)

-- The loop's invariant. The stack holds the openers that are open, and the code where they land, the innermost last.
pub record Writing (s : List ℕ) (first : ℕ) (old buffer openers : List ℕ) (here known : Landing) : Type 0 where
  pub st : List Open
  pub out : List ℕ
  pub nests : Nests (read_of s here.at).recs st
  pub here_lands : Lands s first here
  pub known_lands : Lands s first known
  pub places : reverse openers ≡ map (λ o. moved_link (landing_at s first) o.index) st
  pub below : Below (landing_at s first) here.to st
  pub long : length out ≡ here.to
  pub written : buffer ≡ out ++ drop here.to old
  pub left : patched (landing_at s first) st out ++ row s (landing_at s first) (read_of s here.at).recs ≡ squeezed_from s first (read_of s first).recs
  pub room : length (squeezed_from s first (read_of s first).recs) ≤ length old
  pub inside : first ≤ length s

pub front_fits : (s : List ℕ) (first : ℕ) {n : ℕ} → first ≤ length s → length (squeezed_from s first (read_of s first).recs) ≤ n → 0 + length (take first s) ≤ n
unfolding squeezed_from
front_fits s first within room =
    omega (arith, length-append (take first s) (row s (landing_at s first) (read_of s first).recs))

pub writing_first : (s : List ℕ) (first : ℕ) (old : List ℕ) → first ≤ length s → Nests (read_of s first).recs [] → length (squeezed_from s first (read_of s first).recs) ≤ length old →
    Writing s first old (put 0 (take first s) old) [] (record { at = first; to = first }) (record { at = first; to = first })
unfolding squeezed_from patched put
writing_first s first old within nests room =
    let long : length (take first s) ≡ first = length-take-le first s within in
    record {
      st = [];
      out = take first s;
      nests = nests;
      here_lands = first_lands s first;
      known_lands = first_lands s first;
      places = refl;
      below = tt;
      long = long;
      written = ap (λ n. take first s ++ drop n old) (let n : 0 + length (take first s) ≡ first = omega arith in n);
      left = refl;
      room = room;
      inside = within;
    }

module _ {s : List ℕ} {first : ℕ} {old buffer openers : List ℕ} {here known : Landing} (g : Writing s first old buffer openers here known) where
  -- nothing is left
  ended : (read_of s here.at).recs ≡ [] → buffer ≡ put 0 (squeezed_from s first (read_of s first).recs) old
  unfolding patched put row
  ended none =
      let closed : g.st ≡ [] = none_open (subst (λ rs. Nests rs g.st) none g.nests) in
      let out : g.out ≡ squeezed_from s first (read_of s first).recs = sym (append-nil g.out) ∙ (rw (none, closed) at g.left) in
      let end : here.to ≡ 0 + length (squeezed_from s first (read_of s first).recs) = omega (arith, ap length out, g.long) in
      g.written ∙ (λ i. out i ++ drop (end i) old)

  pub at_end : {p : ℕ} → (scan_of s here.at).step ≡ Ok (N.End p) → buffer ≡ put 0 (squeezed_from s first (read_of s first).recs) old
  at_end {p} e = ended (ap (λ (r : Reading). r.recs) (read_by s here.at (Ok (N.End p)) e))

  pub at_refused : {x : Refusal} → (scan_of s here.at).step ≡ Err x → buffer ≡ put 0 (squeezed_from s first (read_of s first).recs) old
  at_refused {x} e = ended (ap (λ (r : Reading). r.recs) (read_by s here.at (Err x) e))

  module _ {it : Record} (e : (scan_of s here.at).step ≡ Ok (N.Record it)) where
    abbrev rec : Rec
    rec = rec_at s (scan_of s here.at) it

    nests_here : Nests (rec ∷ (read_of s it.next).recs) g.st
    nests_here = read_nests s here.at e g.nests

    pub readable_here : Readable (bytes_at s it)
    readable_here = head_read nests_here

    -- the record with its length field, as it stands in the stream
    abbrev head : List ℕ
    head = take 2 (drop it.index s)

    abbrev frame : List ℕ
    frame = take (it.next - it.index) (drop it.index s)

    frame_is : frame ≡ head ++ bytes_at s it
    frame_is =
        let y = step_fits s here.at it e in
        let long : it.next - it.index ≡ 2 + it.len = omega (arith, y) in
        let start : it.index + 2 ≡ it.start = sym y.starts in
        ap (λ n. take n (drop it.index s)) long
        ∙ take-add 2 it.len (drop it.index s)
        ∙ ap (λ x. head ++ take it.len x) (drop-drop 2 it.index s ∙ ap (λ n. drop n s) start)

    head_length : length head ≡ 2
    head_length = length-take-le 2 (drop it.index s) (omega (arith, length-drop it.index s, step_fits s here.at it e))

    frame_length : length frame ≡ 2 + it.len
    frame_length = rw frame_is (omega (arith, length-append head (bytes_at s it), head_length, bytes-length s here.at it e))

    -- what is left, with the record written
    left : patched (landing_at s first) g.st (g.out ++ (head ++ moved (landing_at s first) (bytes_at s it))) ++ row s (landing_at s first) (read_of s it.next).recs ≡ squeezed_from s first (read_of s first).recs
    unfolding row
    left =
        let to : ℕ → Option ℕ = landing_at s first in
        let rest : List ℕ = row s to (read_of s it.next).recs in
        ap (λ x. x ++ rest) (patched_append to g.st g.out (head ++ moved to (bytes_at s it)) (below_more to g.st (omega (arith, g.long)) g.below))
        ∙ append_assoc (patched to g.st g.out) (head ++ moved to (bytes_at s it)) rest
        ∙ (rw (read_by s here.at (Ok (N.Record it)) e) at g.left)

    moved_long : length (moved (landing_at s first) (bytes_at s it)) ≡ it.len
    moved_long = moved_length (landing_at s first) (bytes_at s it) ∙ bytes-length s here.at it e

    pub fits : here.to + 2 + it.len ≤ length old
    fits =
        let to : ℕ → Option ℕ = landing_at s first in
        let out : List ℕ = g.out ++ (head ++ moved to (bytes_at s it)) in
        let long : length out ≡ here.to + 2 + it.len =
        length-append g.out (head ++ moved to (bytes_at s it)) ∙ omega (arith, length-append head (moved to (bytes_at s it)), head_length, moved_long, g.long) in
        let whole = length-append (patched to g.st out) (row s to (read_of s it.next).recs) in
        omega (arith, ap length left, patched_length to g.st out (below_more to g.st (omega arith) g.below), g.room)

    copied : put here.to frame buffer ≡ (g.out ++ (head ++ bytes_at s it)) ++ drop (here.to + 2 + it.len) old
    copied =
        let end : here.to + length frame ≡ here.to + 2 + it.len = omega (arith, frame_length) in
        ap (put here.to frame) g.written ∙ put_at_end g.out frame old g.long ∙ (λ i. (g.out ++ frame_is i) ++ drop (end i) old)

    abbrev behind : Landing
    behind = record { at = it.next; to = here.to + 2 + it.len }

    -- the invariant behind the record, with these openers open and this written
    next_turn : {bs os : List ℕ} {k : Landing} (st : List Open) (out : List ℕ) → Nests (read_of s it.next).recs st → Lands s first k →
        reverse os ≡ map (λ o. moved_link (landing_at s first) o.index) st → Below (landing_at s first) behind.to st → length out ≡ behind.to →
        bs ≡ out ++ drop behind.to old → patched (landing_at s first) st out ++ row s (landing_at s first) (read_of s it.next).recs ≡ squeezed_from s first (read_of s first).recs →
        Writing s first old bs os behind k
    next_turn st out n k p b l w left =
        record {
          st = st;
          out = out;
          nests = n;
          here_lands = lands_behind g.here_lands e;
          known_lands = k;
          places = p;
          below = b;
          long = l;
          written = w;
          left = left;
          room = g.room;
          inside = g.inside;
        }

    pub role_here : {ro : Role} → ro ≡ nesting_role it.kind → nesting_role_of (bytes_at s it) ≡ ro
    role_here o = role_of_lem it.kind (bytes_at s it) (kind_of s here.at it e) (sym o)

    -- the buffer keeps its length
    pub buffer_length : length buffer ≡ length old
    buffer_length = ap length g.written ∙ length-append g.out (drop here.to old) ∙ omega (arith, g.long, length-drop here.to old, fits)

    pub frame_fits : here.to + length frame ≤ length buffer
    frame_fits = omega (arith, frame_length, fits, buffer_length)

    pub copied_length : length (put here.to frame buffer) ≡ length old
    copied_length = length_put here.to frame buffer frame_fits ∙ buffer_length

    -- every place is a position of the stream
    pub place_fits : (x : ℕ) → moved_link (landing_at s first) x < 4294967296
    place_fits x =
        grind (arith, common_steps, lands_within s (read_of s first).recs first first x (rising s first) (wholes s first) (omega arith) g.inside, step_fits s here.at it e)

    pub here_fits : here.to < 4294967296
    here_fits = omega (arith, g.here_lands.low, step_fits s here.at it e)

    out_length : (bytes : List ℕ) → length bytes ≡ it.len → length (g.out ++ (head ++ bytes)) ≡ behind.to
    out_length bytes l = length-append g.out (head ++ bytes) ∙ omega (arith, length-append head bytes, head_length, g.long)

    below_behind : Below (landing_at s first) behind.to g.st
    below_behind = below_more (landing_at s first) g.st (omega arith) g.below

    -- a record that opens no scope and closes none
    pub neither : {bs : List ℕ} {k : Landing} → nesting_role_of (bytes_at s it) ≡ Neither → bs ≡ put here.to frame buffer → Lands s first k → Writing s first old bs openers behind k
    neither o w k =
        next_turn g.st (g.out ++ (head ++ bytes_at s it)) (head_passes nests_here o) k g.places below_behind (out_length (bytes_at s it) (bytes-length s here.at it e)) (w ∙ copied)
        (rw (moved_is (landing_at s first) (bytes_at s it) o) at left)

    -- a closer: the end of its opener is written
    module _ (o : nesting_role_of (bytes_at s it) ≡ Closes) where
      closed : Closed rec (read_of s it.next).recs g.st
      closed = head_closes nests_here o

      places_are : reverse openers ≡ moved_link (landing_at s first) closed.inner.index ∷ map (λ o. moved_link (landing_at s first) o.index) closed.outer
      places_are = g.places ∙ ap (map (λ o. moved_link (landing_at s first) o.index)) closed.is

      inner_place : innermost (reverse openers) ≡ moved_link (landing_at s first) closed.inner.index
      inner_place = ap innermost places_are

      pub inner_within : innermost (reverse openers) + 2 + 10 ≤ here.to
      inner_within = rw inner_place (rw closed.is at g.below).0

      pub end_fits : innermost (reverse openers) + 2 + 10 ≤ length old
      end_fits = omega (arith, inner_within, fits)

      -- the end of the opener is here
      end_place : moved_link (landing_at s first) closed.inner.end ≡ here.to
      end_place =
          let above : ¬ (it.index ≡ 0) = λ z. omega (arith, inner_within, g.here_lands.low, step_fits s here.at it e) in
          rw (closed.end, lands_here g.here_lands e, ne_eqb it.index 0 above) refl

      pub closes_turn : {bs os : List ℕ} {k : Landing} → bs ≡ put_u32 (innermost (reverse openers) + 2 + 6) here.to (put here.to frame buffer) → os ≡ take (length openers - 1) openers → Lands s first k →
          Writing s first old bs os behind k
      unfolding patched
      closes_turn w q k =
          let at : ℕ = innermost (reverse openers) + 2 + 6 in
          let four : List ℕ = to_le_bytes w32 here.to in
          let long = out_length (bytes_at s it) (bytes-length s here.at it e) in
          next_turn closed.outer (put_u32 at here.to (g.out ++ (head ++ bytes_at s it))) closed.rest k
          (ap reverse q ∙ popped openers ∙ ap tail places_are)
          (rw closed.is at below_behind).1
          (length_put at four (g.out ++ (head ++ bytes_at s it)) (omega (arith, inner_within, long)) ∙ long)
          (w ∙ ap (put_u32 at here.to) copied ∙ put_before (g.out ++ (head ++ bytes_at s it)) four (drop behind.to old) at (omega (arith, inner_within, long)))
          (ap (λ v. patched (landing_at s first) closed.outer (put_u32 (innermost (reverse openers) + 2 + 6) v (g.out ++ (head ++ bytes_at s it))) ++ row s (landing_at s first) (read_of s it.next).recs) (sym end_place)
          ∙ ap (λ p. patched (landing_at s first) closed.outer (put_u32 (p + 2 + 6) (moved_link (landing_at s first) closed.inner.end) (g.out ++ (head ++ bytes_at s it))) ++ row s (landing_at s first) (read_of s it.next).recs) inner_place
          ∙ ap (λ st. patched (landing_at s first) st (g.out ++ (head ++ bytes_at s it)) ++ row s (landing_at s first) (read_of s it.next).recs) (sym closed.is)
          ∙ (rw (moved_is (landing_at s first) (bytes_at s it) o) at left))

    -- an opener: its parent and its next are written, and it waits for its end
    module _ (o : nesting_role_of (bytes_at s it) ≡ Opens) where
      opened : Opened rec (read_of s it.next).recs g.st
      opened = head_opens nests_here o

      within : here.to + 2 + 10 ≤ behind.to
      within = omega (arith, links_within (bytes_at s it) o opened.read, bytes-length s here.at it e)

      pub links_fit : here.to + 2 + 10 ≤ length old
      links_fit = omega (arith, within, fits)

      pub next_fits : has_next it.kind ≡ true → here.to + 2 + 14 ≤ length old
      next_fits n =
          let k : has_next (raw_kind (bytes_at s it)) ≡ true = ap has_next (sym (kind_of s here.at it e)) ∙ n in
          omega (arith, next_within (bytes_at s it) o opened.read k, bytes-length s here.at it e, fits)

      pub push_room : length openers < 64
      push_room =
          omega (arith, opened.few, ap length g.places, length-reverse openers, length-map g.st (λ o. moved_link (landing_at s first) o.index))

      parent_place : innermost (reverse openers) ≡ moved_link (landing_at s first) opened.links.parent
      parent_place = ap innermost g.places ∙ by g.st ∙ ap (moved_link (landing_at s first)) (sym opened.parent)
        where
          by : (st : List Open) → innermost (map (λ o. moved_link (landing_at s first) o.index) st) ≡ moved_link (landing_at s first) (inner_index st)
          by [] = refl
          by (o ∷ st) = refl

      pub parent_fits : innermost (reverse openers) < 4294967296
      parent_fits = rw parent_place (place_fits opened.links.parent)

      own_place : moved_link (landing_at s first) it.index ≡ here.to
      own_place = let above : ¬ (it.index ≡ 0) = λ z. omega (arith, opened.above) in rw (lands_here g.here_lands e, ne_eqb it.index 0 above) refl

      -- the links of the record, moved, but for its end
      abbrev half : List ℕ
      half = put_parent_and_next (raw_kind (bytes_at s it)) 0 (moved_link (landing_at s first) opened.links.parent) (moved_link (landing_at s first) opened.links.next) (bytes_at s it)

      abbrev parent : ℕ
      parent = innermost (reverse openers)

      half_length : length half ≡ it.len
      half_length =
          links_length _ _ (bytes_at s it) (links_within (bytes_at s it) o opened.read) (has_next (raw_kind (bytes_at s it))) (next_within (bytes_at s it) o opened.read)
          ∙ bytes-length s here.at it e

      half_put : {next : ℕ} → next ≡ moved_link (landing_at s first) (next_by (record_links (bytes_at s it))) →
          put_parent_and_next it.kind (here.to + 2) parent next (put here.to frame buffer) ≡ (g.out ++ (head ++ half)) ++ drop behind.to old
      half_put {next} n =
          let to : ℕ → Option ℕ = landing_at s first in
          let links : record_links (bytes_at s it) ≡ Some opened.links = record_links_is (bytes_at s it) o ∙ opened.read in
          let moved : next ≡ moved_link to opened.links.next = n ∙ ap (λ l. moved_link to (next_by l)) links in
          (λ i. put_parent_and_next (kind_of s here.at it e i) (here.to + 2) (parent_place i) (moved i) (copied i))
          ∙ links_put (moved_link to opened.links.parent) (moved_link to opened.links.next) (bytes_at s it) (links_within (bytes_at s it) o opened.read) g.out head (drop behind.to old) g.long head_length
          (has_next (raw_kind (bytes_at s it))) (next_within (bytes_at s it) o opened.read)

      pub opens_turn : {bs os : List ℕ} {k : Landing} {next : ℕ} → next ≡ moved_link (landing_at s first) (next_by (record_links (bytes_at s it))) →
          bs ≡ put_parent_and_next it.kind (here.to + 2) parent next (put here.to frame buffer) → os ≡ openers ++ here.to ∷ [] → Lands s first k →
          Writing s first old bs os behind k
      unfolding patched with_links
      opens_turn n w q k =
          let to : ℕ → Option ℕ = landing_at s first in
          let end : put_u32 (moved_link to it.index + 2 + 6) (moved_link to opened.links.end) (g.out ++ (head ++ half)) ≡ g.out ++ (head ++ moved to (bytes_at s it)) =
          ap (λ p. put_u32 (p + 2 + 6) (moved_link to opened.links.end) (g.out ++ (head ++ half))) own_place
          ∙ put_in_record g.out head half (to_le_bytes w32 (moved_link to opened.links.end)) 6 g.long head_length
          ∙ ap (λ x. g.out ++ (head ++ x)) (sym (moved_opener to (bytes_at s it) o opened.read)) in
          next_turn (open_scope it.index opened.links ∷ g.st) (g.out ++ (head ++ half)) opened.rest k
          (ap reverse q ∙ reverse-append openers (here.to ∷ []) ∙ (λ i. sym own_place i ∷ g.places i))
          (omega (arith, own_place, within), below_behind)
          (out_length half half_length)
          (w ∙ half_put n)
          (ap (λ x. patched to g.st x ++ row s to (read_of s it.next).recs) end ∙ left)
