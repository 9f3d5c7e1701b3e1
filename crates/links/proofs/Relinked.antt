-- Links put in the place of a record's own: the record is as long, of its kind and read as before, and its links are those.
-- Assumes nothing.
use Rattle.std.proofs.Common.{ℕ, ◌≡◌, refl, sym, ◌∙◌, ap, ◌+◌, ◌≤◌, ◌<◌, ◌^◌, ◌++◌, append_assoc, length-append, arith, Bool, true, false, cond, List, length, drop, Some, Ok, Err}
use lib.Dec.{ltb, leb}
use Rattle.std.specs.Int.{w32, to_le_bytes}
use Rattle.common.specs.Bytes.{le, put, put_u32}
use Rattle.common.proofs.Bytes.{le_drop, length_put, drop_put, le_behind_put, le_before_put, le_put_u32, put_before, put_behind, There, put_there, there_put, there_behind, there_before}
use Rattle.common.specs.Reader.{Read, Reader, done, next, number, runs_out, ◌>>=◌}
use Rattle.common.specs.declared.Refusal.{Refusal}
use Rattle.common.specs.declared.Refusal.TheVariants.{TooLong}
use Rattle.names.specs.Name.{symbol_name, cstring, bytes, run}
use Rattle.constants.specs.Raw.{raw_kind, nesting_role_of}
use Rattle.constants.specs.Kind.{nesting_role}
use Rattle.constants.specs.declared.Role.TheVariants.{Opens}
use Rattle.records.specs.declared.SymbolData.{SymbolData}
use Rattle.code.specs.Procedure.{procedure}
use Rattle.code.specs.Block.{block, separated_code}
use Rattle.code.specs.Inline.{inline_site}
use Rattle.code.specs.Thunk.{thunk, thunk_kind}
use Rattle.symbol.specs.Decode.{layout, by_kind, decode}
use Rattle.links.specs.declared.Links.{Links}
use Rattle.links.specs.Links.{has_next, links_in, links_by, links_of, with_links}
use Rattle.links.proofs.Openers.{opener_class, decode_is, links_there, next_there}

-- whether something was read
abbrev answered : {A : Type 0} → Read A → Bool
answered (Ok r) = true
answered (Err e) = false

-- What is read after a number, which is there or not, after another reader, by a choice, and what is made at last.
module _ {A B : Type 0} (s : List ℕ) where
  behind_number : (k : A → Reader B) (b : Bool) (x : A) (to : ℕ) (e : Refusal) →
      answered (next k s (cond b (Ok (x, to)) (Err e))) ≡ cond b (answered (k x s to)) false
  behind_number k true x to e = refl
  behind_number k false x to e = refl

  behind_two : {C : Type 0} (k : B → Reader C) (f : A → Reader B) (b : Bool) (x : A) (to : ℕ) (e : Refusal) →
      next k s (next f s (cond b (Ok (x, to)) (Err e))) ≡ next (λ a s at. next k s (f a s at)) s (cond b (Ok (x, to)) (Err e))
  behind_two k f true x to e = refl
  behind_two k f false x to e = refl

  behind_choice : (k : A → Reader B) (b : Bool) (m n : Reader A) (at : ℕ) →
      answered (next k s (cond b m n s at)) ≡ cond b (answered (next k s (m s at))) (answered (next k s (n s at)))
  behind_choice k true m n at = refl
  behind_choice k false m n at = refl

  at_last : (f : A → B) (r : Read A) → answered (next (λ a. done (f a)) s r) ≡ answered r
  at_last f (Ok r) = refl
  at_last f (Err e) = refl

of_choice : {A : Type 0} (s : List ℕ) (b : Bool) (m n : Reader A) (at : ℕ) → answered (cond b m n s at) ≡ cond b (answered (m s at)) (answered (n s at))
of_choice s true m n at = refl
of_choice s false m n at = refl

two_at_last : {A B C : Type 0} (s : List ℕ) (f : A → B → C) (m : Reader B) (r : Read A) → answered (next (λ a. m >>= λ b. done (f a b)) s r) ≡ answered (next (λ a. m) s r)
two_at_last s f m (Ok r) = at_last s (f r.0) (m s r.1)
two_at_last s f m (Err e) = refl

ruleset reading = (behind_number, behind_two, behind_choice, of_choice, at_last, two_at_last)

-- two records that are the same but for their links
record Relinked (s t : List ℕ) : Type 0 where
  lengths : length s ≡ length t
  number : le 2 s 0 ≡ le 2 t 0
  behind : (at : ℕ) → 14 ≤ at → drop at s ≡ drop at t

-- The one is read where the other is: the readers behind 14 find the same, and those before it find numbers in any case.
module _ {s t : List ℕ} (h : Relinked s t) where
  kinds : raw_kind s ≡ raw_kind t
  unfolding raw_kind
  kinds = rw (h.lengths, h.number)

  numbers : (n at : ℕ) → 14 ≤ at → le n s at ≡ le n t at
  numbers n at l = le_drop n at s ∙ ap (λ (x : List ℕ). le n x 0) (h.behind at l) ∙ sym (le_drop n at t)

  cstrings : (at : ℕ) → 14 ≤ at → answered (cstring s at) ≡ answered (cstring t at)
  unfolding cstring
  cstrings at l = rw (h.lengths, h.behind at l)

  names : (kind at : ℕ) → 14 ≤ at → answered (symbol_name kind s at) ≡ answered (symbol_name kind t at)
  unfolding symbol_name number bytes
  names kind at l = simp (reading, h.lengths, numbers 1 at l, cstrings at l)

  thunk_kinds : (code at : ℕ) → 14 ≤ at → answered (thunk_kind code s at) ≡ answered (thunk_kind code t at)
  unfolding number
  thunk_kinds code at l = simp (reading, h.lengths, cstrings (at + 2) (omega arith))

  thunk_ends : (kind code at : ℕ) → 14 ≤ at → answered (next (λ name. thunk_kind code) s (symbol_name kind s at)) ≡ answered (next (λ name. thunk_kind code) t (symbol_name kind t at))
  unfolding symbol_name number bytes cstring
  thunk_ends kind code at l =
      simp (thunk_kinds code (at + 1 + le 1 t at) (omega arith), thunk_kinds code (at + run (drop at t) + 1) (omega arith), reading, h.lengths, numbers 1 at l, h.behind at l)

  procedures : (kind : ℕ) → answered (procedure kind s 2) ≡ answered (procedure kind t 2)
  unfolding number
  procedures kind = simp (reading, h.lengths, names kind 37 (omega arith))

  inline_sites : (kind : ℕ) → answered (inline_site kind s 2) ≡ answered (inline_site kind t 2)
  unfolding number
  inline_sites kind = simp (reading, h.lengths)

  blocks : (kind : ℕ) → answered (block kind s 2) ≡ answered (block kind t 2)
  unfolding number
  blocks kind = simp (reading, h.lengths, names kind 20 (omega arith))

  thunks : (kind : ℕ) → answered (thunk kind s 2) ≡ answered (thunk kind t 2)
  unfolding number
  thunks kind = simp (reading, h.lengths, numbers 1 22 (omega arith), thunk_ends kind (le 1 t 22) 23 (omega arith))

  separated_codes : answered (separated_code s 2) ≡ answered (separated_code t 2)
  unfolding number
  separated_codes = simp (reading, h.lengths)

  openers : (kind : ℕ) → nesting_role kind ≡ Opens → answered (by_kind kind s 2) ≡ answered (by_kind kind t 2)
  openers kind =
      opener_class (λ c. answered (layout c kind s 2) ≡ answered (layout c kind t 2)) refl (procedures kind) (inline_sites kind) (blocks kind) (thunks kind) separated_codes kind

  decoded : nesting_role_of s ≡ Opens → answered (decode s) ≡ answered (decode t)
  unfolding nesting_role_of
  decoded opens = rw (decode_is s, decode_is t, h.lengths, kinds) (by (ltb 65535 (length t)) (leb 2 (length t)))
    where
      by : (a b : Bool) →
          answered (cond a (Err TooLong) (cond b (by_kind (raw_kind t) s 2) (Err runs_out)))
          ≡ answered (cond a (Err TooLong) (cond b (by_kind (raw_kind t) t 2) (Err runs_out)))
      by true b = refl
      by false false = refl
      by false true = openers (raw_kind t) (rw kinds at opens)

-- links are read where decode answers, and are those that stand there
links_of_answered : (s : List ℕ) → answered (decode s) ≡ true → links_of s ≡ Some (links_in s)
unfolding links_of
links_of_answered s e = by (decode s) e
  where
    by : (r : Read SymbolData) → answered r ≡ true → links_by s r ≡ Some (links_in s)
    by (Ok r) e = refl
    by (Err x) e = cc

was_read : (s : List ℕ) {l : Links} → links_of s ≡ Some l → (r : SymbolData × ℕ) × (decode s ≡ Ok r) × (l ≡ links_in s)
unfolding links_of
was_read s {l} = by (decode s) refl
  where
    by : (r : Read SymbolData) → decode s ≡ r → links_by s r ≡ Some l → (r : SymbolData × ℕ) × (decode s ≡ Ok r) × (l ≡ links_in s)
    by (Ok r) e h = (r, e, cc)
    by (Err x) e h = cc

-- a record, and the same with these links, with a next or without
record Placed (n : Bool) (m : Links) (s t : List ℕ) : Type 0 where
  relinked : Relinked s t
  parent : m.parent < 2 ^ 32 → le 4 t 2 ≡ m.parent
  end : m.end < 2 ^ 32 → le 4 t 6 ≡ m.end
  next : m.next < 2 ^ 32 → n ≡ true → le 4 t 10 ≡ m.next

placed : (n : Bool) (m : Links) (s : List ℕ) → 10 ≤ length s → (n ≡ true → 14 ≤ length s) →
    Placed n m s (put_u32 6 m.end (cond n (put_u32 10 m.next (put_u32 2 m.parent s)) (put_u32 2 m.parent s)))
placed true m s room next = let room_2 : 14 ≤ length s = next refl in grind (arith, length_put, drop_put, le_before_put, le_behind_put, le_put_u32)
placed false m s room next = grind (arith, length_put, drop_put, le_before_put, le_behind_put, le_put_u32)

-- a parent, a next where there is one, and an end, put in a record
abbrev anew : Bool → List ℕ → List ℕ → List ℕ → List ℕ → List ℕ
anew n parent end next s = put 6 end (cond n (put 10 next (put 2 parent s)) (put 2 parent s))

module _ (p e x s : List ℕ) (long_p : length p ≡ 4) (long_e : length e ≡ 4) (long_x : length x ≡ 4) (room : 10 ≤ length s) where
  long : length (put 2 p s) ≡ length s
  long = length_put 2 p s (omega arith)

  parent_there : There 2 p (put 2 p s)
  parent_there = there_put 2 p s (omega arith)

  put_again : (n : Bool) → (n ≡ true → 14 ≤ length s) → anew n p e x (anew n p e x s) ≡ anew n p e x s
  put_again true more =
      let b : List ℕ = put 10 x (put 2 p s) in
      let long_b : length b ≡ length s = length_put 10 x (put 2 p s) (omega (arith, long, more refl)) ∙ long in
      let parent = there_before 2 p b 6 e (omega (arith, long_b)) (there_before 2 p (put 2 p s) 10 x (omega (arith, long)) parent_there (omega arith)) (omega arith) in
      let next = there_behind 10 x b 6 e (omega (arith, long_b)) (there_put 10 x (put 2 p s) (omega (arith, long))) (omega arith) in
      let end = there_put 6 e b (omega (arith, long_b)) in
      rw (put_there 2 p (put 6 e b) parent, put_there 10 x (put 6 e b) next, put_there 6 e (put 6 e b) end) refl
  put_again false more =
      let a : List ℕ = put 2 p s in
      let parent = there_before 2 p a 6 e (omega (arith, long)) parent_there (omega arith) in
      let end = there_put 6 e a (omega (arith, long)) in
      rw (put_there 2 p (put 6 e a) parent, put_there 6 e (put 6 e a) end) refl

pub links_is : (s : List ℕ) {l : Links} → links_of s ≡ Some l → l ≡ links_in s
links_is s e = (was_read s e).2

-- an opener whose links are read, and links to stand in it
module _ (s : List ℕ) {l : Links} (opens : nesting_role_of s ≡ Opens) (read : links_of s ≡ Some l) where
  pub links_within : 10 ≤ length s
  links_within = links_there s opens (was_read s read).1

  pub next_within : has_next (raw_kind s) ≡ true → 14 ≤ length s
  next_within = next_there s opens (was_read s read).1

  module _ (m : Links) where
    with_links_placed : Placed (has_next (raw_kind s)) m s (with_links m s)
    unfolding with_links
    with_links_placed = placed (has_next (raw_kind s)) m s links_within next_within

    pub with_links_length : length (with_links m s) ≡ length s
    with_links_length = sym with_links_placed.relinked.lengths

    pub with_links_kind : raw_kind (with_links m s) ≡ raw_kind s
    with_links_kind = sym (kinds with_links_placed.relinked)

    pub links_of_with_links : m.parent < 2 ^ 32 → m.end < 2 ^ 32 → m.next < 2 ^ 32 → (has_next (raw_kind s) ≡ false → m.next ≡ 0) → links_of (with_links m s) ≡ Some m
    links_of_with_links p e n none =
        links_of_answered (with_links m s) (sym (decoded with_links_placed.relinked opens) ∙ ap answered (was_read s read).1)
        ∙ rw (with_links_kind, with_links_placed.parent p, with_links_placed.end e, by (has_next (raw_kind s)) refl)
      where
        by : (b : Bool) → has_next (raw_kind s) ≡ b → cond (has_next (raw_kind s)) (le 4 (with_links m s) 10) 0 ≡ m.next
        by true h = rw h (with_links_placed.next n h)
        by false h = rw h (sym (none h))

    -- once more, they change nothing
    pub with_links_again : with_links m (with_links m s) ≡ with_links m s
    unfolding with_links
    with_links_again =
        let four : ℕ → List ℕ = to_le_bytes w32 in
        ap (λ k. anew (has_next k) (four m.parent) (four m.end) (four m.next) (with_links m s)) with_links_kind
        ∙ put_again (four m.parent) (four m.end) (four m.next) s refl refl refl links_within (has_next (raw_kind s)) next_within

-- bytes put in a record that stands behind others, with its length field between
pub put_in_record : (out head bytes xs : List ℕ) (at : ℕ) {n : ℕ} → length out ≡ n → length head ≡ 2 → put (n + 2 + at) xs (out ++ (head ++ bytes)) ≡ out ++ (head ++ put at xs bytes)
put_in_record out head bytes xs at {n} e h =
    let long : length (out ++ head) ≡ n + 2 = length-append out head ∙ omega arith in
    ap (put (n + 2 + at) xs) (sym (append_assoc out head bytes)) ∙ put_behind (out ++ head) xs bytes at long ∙ append_assoc out head (put at xs bytes)

module _ (parent next : ℕ) (bytes : List ℕ) (room : 10 ≤ length bytes) where
  -- a parent, and a next where there is one, put in a record
  pub links_length : (n : Bool) → (n ≡ true → 14 ≤ length bytes) → length (cond n (put_u32 10 next (put_u32 2 parent bytes)) (put_u32 2 parent bytes)) ≡ length bytes
  links_length true more = let room_2 : 14 ≤ length bytes = more refl in grind (arith, length_put)
  links_length false more = grind (arith, length_put)

  pub links_put : (out head rest : List ℕ) {m : ℕ} → length out ≡ m → length head ≡ 2 → (n : Bool) → (n ≡ true → 14 ≤ length bytes) →
      cond n (put_u32 (m + 2 + 10) next (put_u32 (m + 2 + 2) parent ((out ++ (head ++ bytes)) ++ rest))) (put_u32 (m + 2 + 2) parent ((out ++ (head ++ bytes)) ++ rest))
      ≡ (out ++ (head ++ cond n (put_u32 10 next (put_u32 2 parent bytes)) (put_u32 2 parent bytes))) ++ rest
  links_put out head rest {m} e h = by
    where
      one : (x at : ℕ) (bs : List ℕ) → at + 4 ≤ length bs → put_u32 (m + 2 + at) x ((out ++ (head ++ bs)) ++ rest) ≡ (out ++ (head ++ put_u32 at x bs)) ++ rest
      one x at bs fits =
          let long : length (out ++ (head ++ bs)) ≡ m + 2 + length bs = length-append out (head ++ bs) ∙ omega (arith, length-append head bs) in
          put_before (out ++ (head ++ bs)) (to_le_bytes w32 x) rest (m + 2 + at) (omega arith) ∙ ap (λ l. l ++ rest) (put_in_record out head bs (to_le_bytes w32 x) at e h)

      by : (n : Bool) → (n ≡ true → 14 ≤ length bytes) →
          cond n (put_u32 (m + 2 + 10) next (put_u32 (m + 2 + 2) parent ((out ++ (head ++ bytes)) ++ rest))) (put_u32 (m + 2 + 2) parent ((out ++ (head ++ bytes)) ++ rest))
          ≡ (out ++ (head ++ cond n (put_u32 10 next (put_u32 2 parent bytes)) (put_u32 2 parent bytes))) ++ rest
      by true more =
          let long = length_put 2 (to_le_bytes w32 parent) bytes (omega arith) in
          ap (put_u32 (m + 2 + 10) next) (one parent 2 bytes (omega arith)) ∙ one next 10 (put_u32 2 parent bytes) (omega (arith, more refl))
      by false more = one parent 2 bytes (omega arith)
