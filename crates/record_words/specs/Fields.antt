-- Fields that are no plain numbers, as words.
use Rattle.std.specs.Prelude.{ℕ, Option, is_some}
use Rattle.names.specs.declared.Part.{Part}
use Rattle.variant.specs.declared.Variant.{Variant}
use Rattle.variant.specs.declared.Variant.TheVariants.{U8, U16, U32, U64, I16, I32, I64}
use Rattle.words.specs.Word.{truth, signed_word}
use Rattle.records.specs.declared.TrampolineType.{TrampolineType}
use Rattle.records.specs.declared.TrampolineType.TheVariants.{Incremental, BranchIsland, Unknown as UnknownTrampoline}
use Rattle.records.specs.declared.ThunkKind.{ThunkKind}
use Rattle.records.specs.declared.ThunkKind.TheVariants.{NoType, Adjustor, VCall, PCode, Load, Unknown}

-- what may be missing: whether it is there (what it is, is `unwrap_or` with 0, or with this part, where it is missing)
abbrev pub has : {A : Type 0} → Option A → ℕ
has o = truth (is_some o)

abbrev pub no_part : Part
no_part = record { start = 0; len = 0 }

-- the numeric value of a constant: which of pdb's variants it is, and the value
abbrev pub variant_number : Variant → ℕ
variant_number (U8 x) = 0
variant_number (U16 x) = 1
variant_number (U32 x) = 2
variant_number (U64 x) = 3
variant_number (I16 x) = 5
variant_number (I32 x) = 6
variant_number (I64 x) = 7

abbrev pub variant_value : Variant → ℕ
variant_value (U8 x) = x
variant_value (U16 x) = x
variant_value (U32 x) = x
variant_value (U64 x) = x
variant_value (I16 x) = signed_word x
variant_value (I32 x) = signed_word x
variant_value (I64 x) = signed_word x

abbrev pub trampoline_number : TrampolineType → ℕ
trampoline_number Incremental = 0
trampoline_number BranchIsland = 1
trampoline_number UnknownTrampoline = 2

-- a thunk variant: its number, the number that it holds, and the adjustor's target; 0 where it holds none
abbrev pub thunk_number : ThunkKind → ℕ
thunk_number NoType = 0
thunk_number (Adjustor a) = 1
thunk_number (VCall x) = 2
thunk_number PCode = 3
thunk_number Load = 4
thunk_number (Unknown code) = 5

abbrev pub thunk_value : ThunkKind → ℕ
thunk_value NoType = 0
thunk_value (Adjustor a) = a.delta
thunk_value (VCall x) = x
thunk_value PCode = 0
thunk_value Load = 0
thunk_value (Unknown code) = code

abbrev pub thunk_target : ThunkKind → Part
thunk_target NoType = no_part
thunk_target (Adjustor a) = a.target
thunk_target (VCall x) = no_part
thunk_target PCode = no_part
thunk_target Load = no_part
thunk_target (Unknown code) = no_part
