-- Names (document 01, "Record layouts": a name is a u8 length and bytes for kinds below 0x1100, else bytes up to a zero).
use Rattle.std.specs.Prelude.{ℕ, zero, suc, ◌+◌, ◌-◌, List, [], ◌∷◌, cond, length, take, drop, ltb, leb, Ok, Err}
use Rattle.common.specs.Reader.{runs_out, Reader, ◌>>=◌, u8}
use Rattle.names.specs.declared.Part.{Part}

-- how many bytes stand before the first zero, or the end
unfoldable pub run : List ℕ → ℕ
run [] = 0
run (zero ∷ bs) = 0
run (suc b ∷ bs) = suc (run bs)

-- n bytes
unfoldable pub bytes : ℕ → Reader Part
bytes n s at = cond (leb (at + n) (length s)) (Ok (record { start = at; len = n }, at + n)) (Err runs_out)

-- bytes up to a zero, which is read too
unfoldable pub cstring : Reader Part
cstring s at =
    let n : ℕ = run (drop at s) in
    cond (ltb (at + n) (length s)) (Ok (record { start = at; len = n }, at + n + 1)) (Err runs_out)

-- a length byte and as many bytes
abbrev pub pascal : Reader Part
pascal = u8 >>= bytes

-- all that is left, perhaps nothing
abbrev pub rest : Reader Part
rest s at = Ok (record { start = at; len = length s - at }, length s)

-- the name of a record of a kind
unfoldable pub symbol_name : ℕ → Reader Part
symbol_name kind = cond (ltb kind 0x1100) pascal cstring

-- the bytes that a part is, and none where it does not lie within the bytes
unfoldable pub bytes_of : List ℕ → Part → List ℕ
bytes_of s p = cond (leb (p.start + p.len) (length s)) (take p.len (drop p.start s)) []
