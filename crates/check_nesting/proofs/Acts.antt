-- Laws of an act: which records and stacks it allows.
-- Assumes nothing.
use Rattle.std.proofs.Common.{◌<◌, ◌≡◌, arith, List, length, Ok}
use Rattle.std.proofs.lemmas.Grind.{common_steps}
use Rattle.constants.specs.Raw.{nesting_role_of}
use Rattle.constants.specs.declared.Role.TheVariants.{Neither, Opens, Closes}
use Rattle.iter.specs.Reading.{Rec}
use Rattle.check_nesting.specs.declared.act.Open.{Open}
use Rattle.check_nesting.specs.declared.act.Act.TheVariants as A
use Rattle.check_nesting.specs.Act.{act_of, rec_of}

module _ (r : Rec) (st : List Open) where
  -- an act does not look at what was passed over
  pub act_bare : act_of (rec_of r.index r.bytes) st ≡ act_of r st
  unfolding act_of
  act_bare = grind (arith, common_steps)

  -- an opener is pushed below 64, and a closer pops only where one is open
  pub stay_role : Ok A.Stay ≡ act_of r st → nesting_role_of r.bytes ≡ Neither
  unfolding act_of
  stay_role e = grind (arith, common_steps)

  pub push_role : {o : Open} → Ok (A.Push o) ≡ act_of r st → nesting_role_of r.bytes ≡ Opens
  unfolding act_of
  push_role e = grind (arith, common_steps)

  pub push_room : {o : Open} → Ok (A.Push o) ≡ act_of r st → length st < 64
  unfolding act_of
  push_room e = grind (arith, common_steps)

  pub pop_role : Ok A.Pop ≡ act_of r st → nesting_role_of r.bytes ≡ Closes
  unfolding act_of
  pop_role e = grind (arith, common_steps)

  pub pop_some : Ok A.Pop ≡ act_of r st → 0 < length st
  unfolding act_of
  pop_some e = grind (arith, common_steps)
