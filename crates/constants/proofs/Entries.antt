-- Laws of the list of kinds and of the list of processors.
-- Assumes nothing.
use Rattle.std.proofs.Common.{◌≡◌, ℕ, ◌-◌, ◌<◌, ◌≤◌, arith, slice_index_or, List, [], ◌∷◌, Bool, true, false, cond, map, refl, eqb, ne_eqb}
use Rattle.std.specs.List.{list_any}
use Rattle.constants.specs.Kind.{Entry, kind, kinds, kind_number, class_of, role_of, entry_of}
use Rattle.constants.specs.Processor.{processors, cpu_type_of}
use Rattle.constants.specs.declared.Class.{Class}
use Rattle.constants.specs.declared.Class.TheVariants.{Unknown}
use Rattle.constants.specs.declared.Role.{Role}
use Rattle.constants.specs.declared.Role.TheVariants.{Neither}
use Rattle.std.proofs.lemmas.List.FromFn.{get_or-map-range_with_len}
use Rattle.std.specs.List.{range_with_len}
use Rattle.constants.specs.declared.table.TheConstants.{KINDS}

-- a number that is none of a list
abbrev pub NoneOf : List ℕ → ℕ → Type 0
NoneOf [] k = Unit
NoneOf (n ∷ ns) k = (k ≡ n → ⊥) × NoneOf ns k

-- the entry of a kind that is not listed
abbrev unread : ℕ → Entry
unread k = kind k Unknown Neither

entry_of_none : (es : List Entry) (k : ℕ) → NoneOf (map kind_number es) k → entry_of k es ≡ unread k
unfolding entry_of
entry_of_none [] k h = refl
entry_of_none (e ∷ es) k h = rw (ne_eqb k (kind_number e) h.0) (entry_of_none es k h.1)

pub unlisted : (k : ℕ) → NoneOf (map kind_number kinds) k → ◌≡◌ {A = Class × Role} (Unknown, Neither) (class_of k, role_of k)
unfolding class_of role_of
unlisted k h = rw (entry_of_none kinds k h)

-- two readings that agree at every entry of a list, and at an unlisted kind, agree at the one that is found
pub agree : {A : Type 0} (f g : Entry → A) (k : ℕ) (es : List Entry) → map f es ≡ map g es → f (unread k) ≡ g (unread k) → f (entry_of k es) ≡ g (entry_of k es)
unfolding entry_of
agree f g k [] h n = n
agree f g k (e ∷ es) h n = either (eqb k (kind_number e)) (cc) (agree f g k es (cc) n)
  where
    either : (b : Bool) → f e ≡ g e → f (entry_of k es) ≡ g (entry_of k es) → f (cond b e (entry_of k es)) ≡ g (cond b e (entry_of k es))
    either true p q = p
    either false p q = q

-- The table of kinds is what the list says of each kind from 0x1000 to 0x115F, which antt computes; and so is each entry of it.
kinds_is : KINDS ≡ map (λ k. (class_of k, role_of k)) (range_with_len 0x1000 352)
unfolding class_of role_of entry_of kinds
kinds_is = refl

pub in_kinds : (k : ℕ) → 0x1000 ≤ k → k < 0x1160 → slice_index_or KINDS (k - 0x1000) (Unknown, Neither) ≡ (class_of k, role_of k)
in_kinds k above below =
    rw kinds_is
    (get_or-map-range_with_len (λ n. (class_of n, role_of n)) 0x1000 352 (k - 0x1000) k (Unknown, Neither) (omega arith) (omega arith))

-- A code that differs from each of the list of processors is unknown.
any_none : (ns : List ℕ) (k : ℕ) → NoneOf ns k → list_any (eqb k) ns ≡ false
any_none [] k h = refl
any_none (n ∷ ns) k h = rw (ne_eqb k n h.0) (any_none ns k h.1)

pub unknown_processor : (k : ℕ) → NoneOf processors k → cpu_type_of k ≡ 0
unfolding cpu_type_of
unknown_processor k h = rw (any_none processors k h)

-- a number that lies in no gap of a rising list: neither below its first, nor between two neighbours, nor above its last
abbrev pub InNoGap : List ℕ → ℕ → Type 0
InNoGap [] k = ⊥
InNoGap (n ∷ ns) k = (k < n → ⊥) × (n < k → InNoGap ns k)

-- A code in no gap of that list is known. (So a range's bounds are enough, and which of its codes it is need not be asked.)
any_in_no_gap : (ns : List ℕ) (k : ℕ) → InNoGap ns k → list_any (eqb k) ns ≡ true
any_in_no_gap [] k h = absurd h
any_in_no_gap (n ∷ ns) k h = grind (arith, any_in_no_gap ns k, h.0, h.1)

pub known_processor : (k : ℕ) → InNoGap processors k → cpu_type_of k ≡ k
unfolding cpu_type_of
known_processor k h = rw (any_in_no_gap processors k h)
