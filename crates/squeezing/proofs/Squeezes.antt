-- Squeezing leaves a stream that passes the check, with the same records but for moved links, and no filler behind the first.
-- Assumes nothing.
use Rattle.std.proofs.Common.{ℕ, ◌≡◌, refl, sym, ap, ◌∙◌, arith, inl, inr, List, [], ◌∷◌, append-nil, length, take, take_all, Ok}
use Rattle.iter.specs.Reading.{read_of}
use Rattle.iter.proofs.Records.{Rising, rising}
use Rattle.check_nesting.specs.Nesting.{Nests}
use Rattle.check_nesting.proofs.Nesting.{good_nests, nests_good}
use Rattle.check_nesting.proofs.Moving.{each_named, nests_moved}
use Rattle.squeezing.specs.Squeeze.{lands_from, first_in, first_of, row, moved_link, squeezed_from, squeezed, nexts_of, squeezable, squeeze_of}
use Rattle.squeezing.specs.Squeezes.{Squeezes}
use Rattle.squeezing.proofs.Squeezed.{Readings, read_or_none}
use Rattle.squeezing.proofs.Kept.{IsNamed, same_record, each_moves, each_kept}
use Rattle.squeezing.proofs.Squeezable.{CanSqueeze, can_squeeze, squeezable_is, fits}
use Rattle.squeezing.proofs.Twice.{nexts_named, squeezed_again}

-- a stream that squeezes to itself does so where it has its own room
own_room : (t : List ℕ) (start : ℕ) → squeezable t start ≡ Ok tt → squeezed t start ≡ t → squeeze_of t start (length t) ≡ Ok (length t)
own_room t start can is = ap (λ x. squeeze_of t start (length x)) (sym is) ∙ fits t start can (omega arith) ∙ ap (λ x. Ok (length x)) is

-- a stream that yields no record is copied whole
copied_squeezes : (s : List ℕ) (start : ℕ) → squeezable s start ≡ Ok tt → (read_of s start).recs ≡ [] → Squeezes s start (squeezed s start)
unfolding squeezed squeezed_from first_of row
copied_squeezes s start can none =
    let whole : squeezed s start ≡ s = (λ i. squeezed_from s (first_in s (none i)) (none i)) ∙ append-nil (take (length s) s) ∙ take_all (length s) s (omega arith) in
    rw whole
    (record {
      passes = rw (can_squeeze s start can).checked;
      records = rw none tt;
      no_fillers = rw none tt;
      before = refl;
      again = own_room s start can whole;
      same = whole;
    })

readings_squeeze : (s : List ℕ) (start : ℕ) (t : List ℕ) → CanSqueeze s start → Readings s start t → Squeezes s start t
unfolding first_of
readings_squeeze s start t can q =
    let to = lands_from q.r.index (q.r ∷ q.rs) in
    let nest : Nests (q.r ∷ q.rs) [] = rw q.records at (good_nests s start can.checked).nests in
    let ri : Rising start (q.r ∷ q.rs) = rw q.records at (rising s start) in
    let m = each_moves to q.small start q.landed ri (λ x l. refl) in
    let moved : Nests (q.first ∷ q.others) [] = nests_moved (moved_link to) refl m.0 nest in
    let named = each_named (IsNamed to) nest m.1 refl in
    let named_nexts : nexts_of to (q.r ∷ q.rs) ≡ Ok tt = rw q.records at can.nexts in
    let passes = nests_good t start (rw q.read (record { at_end = refl; nests = moved })) in
    let same = squeezed_again s start t q named named_nexts in
    record {
      passes = rw passes;
      records = rw (q.records, q.read) (each_kept to q.small _ _ (λ x y. same_record x y q.landed) q.landed named named_nexts);
      no_fillers = rw q.read (q.no_fillers, refl);
      before = q.before;
      again = own_room t start (squeezable_is t start (record { counts = _; checked = passes; nexts = nexts_named s start t q named named_nexts })) same;
      same = same;
    }

pub squeezed_squeezes : (s : List ℕ) (start : ℕ) → squeezable s start ≡ Ok tt → Squeezes s start (squeezed s start)
squeezed_squeezes s start can =
    elim (read_or_none s start) [ inl q ↦ readings_squeeze s start (squeezed s start) (can_squeeze s start can) q | inr none ↦ copied_squeezes s start can none ]
