-- A part of lent bytes as a reference (document 01, "Name": "the part of the lent record that it is"): the bytes where they stand, not others like them.
use Rattle.std.specs.Prelude.{ℕ, ◌+◌, ◌≤◌, ◌≡◌, List, length}
use Rattle.std.specs.Borrow.{Bor}
use Rattle.names.specs.Name.{bytes_of}
use Rattle.names.specs.declared.Part.{Part}

-- where the part does not lie within the lent bytes, the place of the empty one is free
pub record IsPart (lent : Bor (List ℕ)) (p : Part) (r : Bor (List ℕ)) : Type 0 where
  pub bytes : r.now ≡ bytes_of lent.now p
  pub place : p.start + p.len ≤ length lent.now → r.ref_ptr ≡ (lent.ref_ptr.0, p.start + lent.ref_ptr.1)
