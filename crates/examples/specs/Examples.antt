-- The proved examples of document 01, line by line, and stream A squeezed and previewed. Each holds by computing the definitions.
use Rattle.std.specs.Prelude.{ℕ, ◌≡◌, refl, false, List, [], ◌∷◌, negsuc, replicate, Result, Ok, Err}
use Rattle.std.proofs.Common.{ap, ◌∙◌, inl, inr, arith}
use Rattle.std.specs.Borrow.{Bor}
use Rattle.common.specs.declared.Refusal.{Refusal}
use Rattle.common.specs.Refused.{told_of, told}
use Rattle.common.specs.Reader.{number}
use Rattle.common.specs.Bytes.{le, signed, put}
use Rattle.names.specs.declared.Part.{Part}
use Rattle.names.specs.Name.{symbol_name, cstring, bytes, run, bytes_of}
use Rattle.variant.specs.declared.Variant.TheVariants.{I16, U8}
use Rattle.variant.specs.Numeric.{numeric}
use Rattle.constants.specs.Kind.{class_of, entry_of, kinds, nesting_role, role_of}
use Rattle.constants.specs.Raw.{nesting_role_of, raw_kind}
use Rattle.records.specs.declared.SymbolData.TheVariants.{Constant, UserDefinedType}
use Rattle.symbol.specs.Decode.{decode}
use Rattle.symbol.specs.Name.{name_of}
use Rattle.symbol.specs.Bytes.{IsName}
use Rattle.iter.specs.Step.{step_of, scan_of, scan_from, frame_at}
use Rattle.iter.specs.declared.Next.TheVariants.{End}
use Rattle.iter.specs.Reading.{read_of, read_from, Begins}
use Rattle.links.specs.Links.{links_of, with_links, has_next}
use Rattle.chain.specs.Chain.{places}
use Rattle.chain.specs.declared.Found.{Found}
use Rattle.check_nesting.specs.Check.{check_of, verdict_from, verdict_on, counts_of, deepest_of}
use Rattle.check_nesting.specs.Act.{act_of}
use Rattle.walk.specs.Walk.{walk_of, walk_from, walk_on, turn_of}
use Rattle.jump.specs.Jump.{jump_of, jump_from, jump_by, jump_body}
use Rattle.jump.specs.Hop.{hop_of, land_of}
use Rattle.climb.specs.Climb.{climb_of, climb_on}
use Rattle.climb.specs.Opener.{opener_of}
use Rattle.squeezing.specs.Squeeze.{first_of, lands_from, record_links, moved, row, squeezed_from, squeezed, nexts_of, squeezable, squeeze_of}
use Rattle.squeezing.specs.Preview.{dropped, preview_of}
use Rattle.agreement.specs.Agreement.{OpenerBegins}

-- Stream A
unfoldable pub stream_a : List ℕ
stream_a =
    0x04 ∷ 0x00 ∷ 0x00 ∷ 0x00 ∷
    0x16 ∷ 0x00 ∷ 0x03 ∷ 0x11 ∷ 0x00 ∷ 0x00 ∷ 0x00 ∷ 0x00 ∷ 0x44 ∷ 0x00 ∷ 0x00 ∷ 0x00 ∷ 0x0A ∷ 0x00 ∷ 0x00 ∷ 0x00 ∷ 0x00 ∷ 0x10 ∷ 0x00 ∷ 0x00 ∷ 0x01 ∷ 0x00 ∷ 0x61 ∷ 0x00 ∷
    0x16 ∷ 0x00 ∷ 0x03 ∷ 0x11 ∷ 0x04 ∷ 0x00 ∷ 0x00 ∷ 0x00 ∷ 0x3C ∷ 0x00 ∷ 0x00 ∷ 0x00 ∷ 0x04 ∷ 0x00 ∷ 0x00 ∷ 0x00 ∷ 0x02 ∷ 0x10 ∷ 0x00 ∷ 0x00 ∷ 0x01 ∷ 0x00 ∷ 0x62 ∷ 0x00 ∷
    0x06 ∷ 0x00 ∷ 0x24 ∷ 0x11 ∷ 0x6E ∷ 0x73 ∷ 0x74 ∷ 0x00 ∷
    0x02 ∷ 0x00 ∷ 0x06 ∷ 0x00 ∷
    0x02 ∷ 0x00 ∷ 0x02 ∷ 0x04 ∷
    0x02 ∷ 0x00 ∷ 0x06 ∷ 0x00 ∷ []

-- The definitions that the examples compute: whoever unfolds `steps` unfolds what its line names, and so on.
steps : Unit {0}
unfolding stream_a step_of scan_of scan_from frame_at read_of read_from le
steps = tt

decoding : Unit {0}
unfolding decode number symbol_name cstring bytes run le signed class_of entry_of kinds
decoding = tt

scopes : Unit {0}
unfolding steps decoding nesting_role_of raw_kind nesting_role role_of links_of walk_of walk_from walk_on turn_of jump_of jump_from jump_by jump_body hop_of land_of climb_of climb_on opener_of
scopes = tt

-- a refusal: its number, its position, and the kind or the prefix
abbrev Refuses : {A : Type 0} → Result A Refusal → ℕ → ℕ → ℕ → Type 0
Refuses (Ok a) number position detail = ⊥
Refuses (Err e) number position detail = told_of e ≡ told number position detail

-- an answer of a finder: the scopes that its chain lists, and the count
abbrev found : List ℕ → ℕ → Result Found Refusal
found chain count = Ok (record { chain = chain; count = count })

-- the places of the chains below
places_2 : places (4 ∷ 28 ∷ []) ≡ 4 ∷ 28 ∷ replicate 62 0
places_2 = refl

places_1 : places (4 ∷ []) ≡ 4 ∷ replicate 63 0
places_1 = refl

-- P1 A passes: 5 and 1 records, 64 and 4 bytes, 2 openers, depth 2.
p1 : check_of stream_a 4 ≡ Ok (record { records = 5; bytes = 64; fillers = 1; filler_bytes = 4; openers = 2; deepest = 2 })
unfolding scopes check_of verdict_from verdict_on act_of counts_of deepest_of
p1 = refl

-- P2 i = 52: chain 4, 28; 3 read both ways.
p2_walk : walk_of stream_a 4 52 ≡ found (4 ∷ 28 ∷ []) 3
unfolding scopes
p2_walk = refl

p2_jump : jump_of stream_a 4 52 ≡ found (4 ∷ 28 ∷ []) 3
unfolding scopes
p2_jump = refl

-- P3 i = 68: chain 4; walk 5 read, jump 4.
p3_walk : walk_of stream_a 4 68 ≡ found (4 ∷ []) 5
unfolding scopes
p3_walk = refl

p3_jump : jump_of stream_a 4 68 ≡ found (4 ∷ []) 4
unfolding scopes
p3_jump = refl

-- P4 i = 64: 14 both ways.
p4_walk : Refuses (walk_of stream_a 4 64) 14 0 0
unfolding scopes
p4_walk = refl

p4_jump : Refuses (jump_of stream_a 4 64) 14 0 0
unfolding scopes
p4_jump = refl

-- P5 climb from 28: 4; one link.
p5 : climb_of stream_a 28 ≡ found (4 ∷ []) 1
unfolding scopes
p5 = refl

-- Condition 3 speaks of A: it passes (P1), a record begins at 52 (P2) and at 68 (P3), none at 64 (P4), and an opener at 28 (P5).
c3_52 : Begins stream_a 4 52
unfolding steps
c3_52 = inr (inr (inl refl))

c3_68 : Begins stream_a 4 68
unfolding steps
c3_68 = inr (inr (inr (inr (inl refl))))

c3_64 : Begins stream_a 4 64 → ⊥
unfolding steps
c3_64 (inl e) = absurd (omega arith)
c3_64 (inr (inl e)) = absurd (omega arith)
c3_64 (inr (inr (inl e))) = absurd (omega arith)
c3_64 (inr (inr (inr (inl e)))) = absurd (omega arith)
c3_64 (inr (inr (inr (inr (inl e))))) = absurd (omega arith)
c3_64 (inr (inr (inr (inr (inr e))))) = absurd e

c3_28 : OpenerBegins stream_a 4 28
unfolding scopes
c3_28 = inr (inl (refl, refl))

-- P6 empty stream: End at 0.
p6 : step_of [] 0 ≡ Ok (End 0)
unfolding steps
p6 = refl

-- P7 `01 00`: 2 at 2.
p7 : Refuses (step_of (0x01 ∷ 0x00 ∷ []) 0) 2 2 0
unfolding steps
p7 = refl

-- P8 `02 00 06`: 1 at 2.
p8 : Refuses (step_of (0x02 ∷ 0x00 ∷ 0x06 ∷ []) 0) 1 2 0
unfolding steps
p8 = refl

-- P9 `02 00 07 00` from 9: End at 4.
p9 : step_of (0x02 ∷ 0x00 ∷ 0x07 ∷ 0x00 ∷ []) 9 ≡ Ok (End 4)
unfolding steps
p9 = refl

-- a part of a record
abbrev part : ℕ → ℕ → Part
part start len = record { start = start; len = len }

-- every name that is given out of these bytes is this one
abbrev Names : List ℕ → List ℕ → Type 0
Names bytes name = (lent given : Bor (List ℕ)) → lent.now ≡ bytes → IsName lent (name_of bytes) given → given.now ≡ name

-- P10 `07 11 00 10 00 00 01 80 FF FF 6B 00`: type 0x1000, -1, name k.
abbrev record10 : List ℕ
record10 = 0x07 ∷ 0x11 ∷ 0x00 ∷ 0x10 ∷ 0x00 ∷ 0x00 ∷ 0x01 ∷ 0x80 ∷ 0xFF ∷ 0xFF ∷ 0x6B ∷ 0x00 ∷ []

p10 : decode record10 ≡ Ok (Constant (record { managed = false; type_index = 0x1000; value = I16 (negsuc 0); name = part 10 1 }), 12)
unfolding decoding
p10 = refl

p10_name : Names record10 (0x6B ∷ [])
unfolding decoding name_of bytes_of
p10_name lent given e is = is.bytes ∙ ap (λ (s : List ℕ). bytes_of s (part 10 1)) e

-- With `00 80 FF`: u8 255.
p10' : decode (0x07 ∷ 0x11 ∷ 0x00 ∷ 0x10 ∷ 0x00 ∷ 0x00 ∷ 0x00 ∷ 0x80 ∷ 0xFF ∷ 0x6B ∷ 0x00 ∷ []) ≡ Ok (Constant (record { managed = false; type_index = 0x1000; value = U8 255; name = part 9 1 }), 11)
unfolding decoding
p10' = refl

-- P11 `03 10 74 00 00 00 02 61 62`: type 0x74, name ab, 9 consumed.
abbrev record11 : List ℕ
record11 = 0x03 ∷ 0x10 ∷ 0x74 ∷ 0x00 ∷ 0x00 ∷ 0x00 ∷ 0x02 ∷ 0x61 ∷ 0x62 ∷ []

p11 : decode record11 ≡ Ok (UserDefinedType (record { type_index = 0x74; name = part 7 2 }), 9)
unfolding decoding
p11 = refl

p11_name : Names record11 (0x61 ∷ 0x62 ∷ [])
unfolding decoding name_of bytes_of
p11_name lent given e is = is.bytes ∙ ap (λ (s : List ℕ). bytes_of s (part 7 2)) e

-- P12 prefix `05 80`: 4. So of the numeric value, and of a constant that has it.
p12 : Refuses (numeric (0x05 ∷ 0x80 ∷ []) 0) 4 0 0x8005
unfolding decoding
p12 = refl

p12_decode : Refuses (decode (0x07 ∷ 0x11 ∷ 0x00 ∷ 0x10 ∷ 0x00 ∷ 0x00 ∷ 0x05 ∷ 0x80 ∷ 0xFF ∷ 0xFF ∷ 0x6B ∷ 0x00 ∷ [])) 4 0 0x8005
unfolding decoding
p12_decode = refl

-- Stream A squeezed (document 02, M-103): its filler is gone, and the outer scope ends at 0x40 in place of 0x44.
unfoldable squeezed_a : List ℕ
squeezed_a =
    0x04 ∷ 0x00 ∷ 0x00 ∷ 0x00 ∷
    0x16 ∷ 0x00 ∷ 0x03 ∷ 0x11 ∷ 0x00 ∷ 0x00 ∷ 0x00 ∷ 0x00 ∷ 0x40 ∷ 0x00 ∷ 0x00 ∷ 0x00 ∷ 0x0A ∷ 0x00 ∷ 0x00 ∷ 0x00 ∷ 0x00 ∷ 0x10 ∷ 0x00 ∷ 0x00 ∷ 0x01 ∷ 0x00 ∷ 0x61 ∷ 0x00 ∷
    0x16 ∷ 0x00 ∷ 0x03 ∷ 0x11 ∷ 0x04 ∷ 0x00 ∷ 0x00 ∷ 0x00 ∷ 0x3C ∷ 0x00 ∷ 0x00 ∷ 0x00 ∷ 0x04 ∷ 0x00 ∷ 0x00 ∷ 0x00 ∷ 0x02 ∷ 0x10 ∷ 0x00 ∷ 0x00 ∷ 0x01 ∷ 0x00 ∷ 0x62 ∷ 0x00 ∷
    0x06 ∷ 0x00 ∷ 0x24 ∷ 0x11 ∷ 0x6E ∷ 0x73 ∷ 0x74 ∷ 0x00 ∷
    0x02 ∷ 0x00 ∷ 0x06 ∷ 0x00 ∷
    0x02 ∷ 0x00 ∷ 0x06 ∷ 0x00 ∷ []

squeezing : Unit {0}
unfolding scopes check_of verdict_from verdict_on act_of counts_of deepest_of first_of lands_from record_links moved with_links has_next put row squeezed_from squeezed nexts_of squeezable squeeze_of dropped preview_of
squeezing = tt

squeezed_is : squeezed stream_a 4 ≡ squeezed_a
unfolding squeezing squeezed_a
squeezed_is = refl

-- 68 bytes, where there is room for them; squeezed again it is the same
squeeze_fits : squeeze_of stream_a 4 68 ≡ Ok 68
unfolding squeezing
squeeze_fits = refl

squeeze_no_room : Refuses (squeeze_of stream_a 4 67) 18 0 0
unfolding squeezing
squeeze_no_room = refl

squeezed_twice : squeezed squeezed_a 4 ≡ squeezed_a
unfolding squeezing squeezed_a
squeezed_twice = refl

-- Its preview (M-104): a filler is dropped, and what stood at 0x44 begins at 0x40, where the filler is that no record begins at.
preview_moves : preview_of stream_a 4 0x44 ≡ Ok (record { length = 68; dropped = 1; at = 0x40 })
unfolding squeezing
preview_moves = refl

preview_filler : Refuses (preview_of stream_a 4 0x40) 14 0 0
unfolding squeezing
preview_filler = refl
