-- Fields that stand for something else than their number (document 01, "Record layouts").
use Rattle.std.specs.Prelude.{ℕ, ◌-◌, cond, eqb, Option, None, Some}
use Rattle.common.specs.Reader.{Reader, ◌>>=◌, done, u16, u32}
use Rattle.records.specs.declared.SectionOffset.{SectionOffset}
use Rattle.records.specs.declared.TrampolineType.{TrampolineType}
use Rattle.records.specs.declared.TrampolineType.TheVariants.{Incremental, BranchIsland, Unknown}

-- parents and nexts of 0 mean none
abbrev pub index_of : ℕ → Option ℕ
index_of x = cond (eqb x 0) None (Some x)

abbrev pub index : Reader (Option ℕ)
index = do
  x ← u32
  done (index_of x)

-- module u16 (0 none, else less one)
abbrev pub module_of : ℕ → Option ℕ
module_of x = cond (eqb x 0) None (Some (x - 1))

abbrev pub module_index : Reader (Option ℕ)
module_index = do
  x ← u16
  done (module_of x)

-- "place" is u32 offset, u16 section
abbrev pub place : Reader SectionOffset
place = do
  offset ← u32
  section ← u16
  done (record { offset = offset; section = section })

-- 0 incremental, 1 branch island, else unknown (TRAMP_e)
abbrev pub trampoline_of : ℕ → TrampolineType
trampoline_of x = cond (eqb x 0) Incremental (cond (eqb x 1) BranchIsland Unknown)
