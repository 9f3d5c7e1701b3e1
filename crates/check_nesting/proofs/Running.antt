-- The counts that are kept along a reading are the sums over its records.
-- Assumes nothing.
use Rattle.std.proofs.Common.{ℕ, ◌+◌, ◌-◌, ◌≤◌, ◌≡◌, max, arith, List, [], ◌∷◌, length}
use Rattle.std.proofs.lemmas.Grind.{common_steps}
use Rattle.std.specs.List.{sum_by, count_by}
use Rattle.constants.specs.Kind.{opens}
use Rattle.constants.specs.Raw.{nesting_role_of}
use Rattle.constants.specs.declared.Role.TheVariants.{Neither, Opens, Closes}
use Rattle.iter.specs.Reading.{Rec, Reading, more, ended, Ending}
use Rattle.check_nesting.specs.declared.Counts.{Counts}
use Rattle.check_nesting.specs.Check.{deepest_of, size, counts_of}

-- no fewer are open at the most than in front
deepest_least : (d : ℕ) (rs : List Rec) → d ≤ deepest_of d rs
unfolding deepest_of
deepest_least d [] = omega arith
deepest_least d (r ∷ rs) = omega arith

-- the counts n so far, with depth openers open, and those of the reading that is left
abbrev pub total : Counts → ℕ → Reading → Counts
total n depth rest =
    record {
      records = n.records + length rest.recs;
      bytes = n.bytes + sum_by size rest.recs;
      fillers = n.fillers + (sum_by (λ r. r.fillers) rest.recs + rest.last.fillers);
      filler_bytes = n.filler_bytes + (sum_by (λ r. r.filler_bytes) rest.recs + rest.last.filler_bytes);
      openers = n.openers + count_by (λ r. opens (nesting_role_of r.bytes)) rest.recs;
      deepest = max n.deepest (deepest_of depth rest.recs);
    }

-- what a step passed over is counted, then a record of so many bytes, then an opener with which so many are open
abbrev pub passed : Counts → ℕ → ℕ → Counts
passed n fillers bytes = record n { fillers = n.fillers + fillers; filler_bytes = n.filler_bytes + bytes }

abbrev pub counted : Counts → ℕ → Counts
counted n len = record n { records = n.records + 1; bytes = n.bytes + (2 + len) }

abbrev pub opened : Counts → ℕ → Counts
opened n depth = record n { openers = n.openers + 1; deepest = max n.deepest depth }

abbrev pub none : Counts
none = record { records = 0; bytes = 0; fillers = 0; filler_bytes = 0; openers = 0; deepest = 0 }

pub total_first : (reading : Reading) → total none 0 reading ≡ counts_of reading
unfolding counts_of
total_first reading = grind (arith, common_steps)

pub total_last : (n : Counts) (depth fillers bytes : ℕ) (e : Ending) → depth ≤ n.deepest → total n depth (ended fillers bytes e) ≡ passed n fillers bytes
unfolding deepest_of
total_last n depth fillers bytes e h = grind (arith, common_steps)

module _ (n : Counts) (depth : ℕ) (r : Rec) (rest : Reading) (h : depth ≤ n.deepest) {len : ℕ} (long : length r.bytes ≡ len) where
  abbrev m : Counts
  m = counted (passed n r.fillers r.filler_bytes) len

  pub total_stay : nesting_role_of r.bytes ≡ Neither → total m depth rest ≡ total n depth (more r rest)
  unfolding deepest_of
  total_stay q = grind (arith, common_steps)

  pub total_pop : nesting_role_of r.bytes ≡ Closes → total m (depth - 1) rest ≡ total n depth (more r rest)
  unfolding deepest_of
  total_pop q = grind (arith, common_steps)

  pub total_push : nesting_role_of r.bytes ≡ Opens → total (opened m (depth + 1)) (depth + 1) rest ≡ total n depth (more r rest)
  unfolding deepest_of
  total_push q = grind (arith, common_steps, deepest_least (depth + 1) rest.recs)
