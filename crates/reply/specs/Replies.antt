-- The reply to each answer of the operations of documents 01 and 02.
use Rattle.std.specs.Prelude.{ℕ, List, [], ◌∷◌, length, Option, None, Some, Result}
use Rattle.common.specs.Reader.{Read}
use Rattle.common.specs.declared.Refusal.{Refusal}
use Rattle.constants.specs.Kind.{starts_scope, ends_scope}
use Rattle.annotations.specs.Annotation.{code_of}
use Rattle.annotations.specs.declared.BinaryAnnotation.{BinaryAnnotation}
use Rattle.annotations.specs.declared.BinaryAnnotation.TheVariants as A
use Rattle.names.specs.declared.Part.{Part}
use Rattle.records.specs.declared.SymbolData.{SymbolData}
use Rattle.record_words.specs.Record.{record_words}
use Rattle.registers.specs.declared.entry.RegisterEntry.{RegisterEntry}
use Rattle.iter.specs.declared.Next.{Next}
use Rattle.iter.specs.declared.Next.TheVariants as N
use Rattle.check_nesting.specs.declared.Counts.{Counts}
use Rattle.squeezing.specs.declared.Gain.{Gain}
use Rattle.chain.specs.Chain.{places}
use Rattle.chain.specs.declared.Found.{Found}
use Rattle.words.specs.Word.{truth, signed_word}
use Rattle.reply.specs.Reply.{Reply, answers, reply_by}

-- Step: "End, with the position"; "index (position of the length field), the record's bytes (kind first), next position". The bytes are
-- given as where they start and how many they are.
abbrev pub step_words : Next → List ℕ
step_words (N.End position) = 0 ∷ position ∷ []
step_words (N.Record r) = 1 ∷ r.index ∷ r.start ∷ r.len ∷ r.next ∷ []

abbrev pub step_reply : Result Next Refusal → Reply
step_reply = reply_by step_words

-- "Kind, opener, closer never refuse, at any length"
abbrev pub kind_reply : ℕ → Reply
kind_reply kind = answers (kind ∷ truth (starts_scope kind) ∷ truth (ends_scope kind) ∷ [])

-- Decode: "typed record, bytes consumed", and decode's refusals
abbrev pub decode_reply : Read SymbolData → Reply
decode_reply = reply_by (λ r. record_words r.0 r.1)

-- Name: "whether there is a name, and the part of the lent record that it is; the empty part where there is none"
abbrev pub name_words : Option Part → List ℕ
name_words (Some p) = 1 ∷ p.start ∷ p.len ∷ []
name_words None = 0 ∷ 0 ∷ 0 ∷ []

abbrev pub name_reply : Result (Option Part) Refusal → Reply
name_reply = reply_by name_words

-- Register entry: "the register and the part that is its name"
abbrev pub entry_reply : Result RegisterEntry Refusal → Reply
entry_reply = reply_by (λ x. x.register ∷ x.name.start ∷ x.name.len ∷ [])

-- the operands of an instruction, signed ones in two's complement; 0 where there is no second one
abbrev pub operand_words : BinaryAnnotation → ℕ × ℕ
operand_words (A.CodeOffset x) = (x, 0)
operand_words (A.ChangeCodeOffsetBase x) = (x, 0)
operand_words (A.ChangeCodeOffset x) = (x, 0)
operand_words (A.ChangeCodeLength x) = (x, 0)
operand_words (A.ChangeFile x) = (x, 0)
operand_words (A.ChangeLineOffset z) = (signed_word z, 0)
operand_words (A.ChangeLineEndDelta x) = (x, 0)
operand_words (A.ChangeRangeKind x) = (x, 0)
operand_words (A.ChangeColumnStart x) = (x, 0)
operand_words (A.ChangeColumnEndDelta z) = (signed_word z, 0)
operand_words (A.ChangeCodeOffsetAndLineOffset x z) = (x, signed_word z)
operand_words (A.ChangeCodeLengthAndCodeOffset x y) = (x, y)
operand_words (A.ChangeColumnEnd x) = (x, 0)

-- Annotation (document 02, M-100): "to the next instruction and position, or done"
abbrev pub annotation_words : Option (BinaryAnnotation × ℕ) → List ℕ
annotation_words (Some r) = let operands = operand_words r.0 in 1 ∷ code_of r.0 ∷ operands.0 ∷ operands.1 ∷ r.1 ∷ []
annotation_words None = 0 ∷ []

abbrev pub annotation_reply : Result (Option (BinaryAnnotation × ℕ)) Refusal → Reply
annotation_reply = reply_by annotation_words

-- Check: records yielded and their bytes, fillers and theirs, openers, deepest nesting
abbrev pub check_reply : Result Counts Refusal → Reply
check_reply = reply_by (λ n. n.records ∷ n.bytes ∷ n.fillers ∷ n.filler_bytes ∷ n.openers ∷ n.deepest ∷ [])

-- "A chain holds up to 64 positions and a count; unused places are 0": the count, and the 64 places
abbrev pub chain_words : List ℕ → List ℕ
chain_words chain = length chain ∷ places chain

-- Walk and jump with the number of records read, climb with that of links
abbrev pub found_words : Found → List ℕ
found_words f = f.count ∷ chain_words f.chain

abbrev pub finding_reply : Result Found Refusal → Reply
finding_reply = reply_by found_words

-- Squeezing: "the answer is the length written"
abbrev pub squeeze_reply : Result ℕ Refusal → Reply
squeeze_reply = reply_by (λ n. n ∷ [])

-- Its preview: "the length, the number of fillers dropped and the new position of a given record"
abbrev pub preview_reply : Result Gain Refusal → Reply
preview_reply = reply_by (λ g. g.length ∷ g.dropped ∷ g.at ∷ [])
