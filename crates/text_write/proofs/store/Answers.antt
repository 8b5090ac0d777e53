use Rattle.theory_text.proofs.Sizes.{Sized, in_one, in_two, in_three, in_four, len_is, form_as}
use native.Mathlib.Omega.{arith}
use Rattle.text_write.proofs.store.Goals as goal

pub put-requires : goal.put-requires
put-requires c = let s : Sized c.args.c 1 = in_one (omega arith) in (omega arith, omega (arith, len_is s))

pub put-requires-in-128-to-2047 : goal.put-requires-in-128-to-2047
put-requires-in-128-to-2047 c = let s : Sized c.args.c 2 = in_two (omega arith) (omega arith) in (omega arith, omega (arith, len_is s))

pub put-requires-in-2048-to-65535 : goal.put-requires-in-2048-to-65535
put-requires-in-2048-to-65535 c = let s : Sized c.args.c 3 = in_three (omega arith) (omega arith) in (omega arith, omega (arith, len_is s))

pub put-requires-in_default : goal.put-requires-in_default
put-requires-in_default c = let s : Sized c.args.c 4 = in_four (omega arith) in (omega arith, omega (arith, len_is s))

pub returns-in-0-to-127 : goal.returns-in-0-to-127
returns-in-0-to-127 c = let s : Sized c.args.c 1 = in_one (omega arith) in rw (form_as s) (cc)

pub returns-in-128-to-2047 : goal.returns-in-128-to-2047
returns-in-128-to-2047 c = let s : Sized c.args.c 2 = in_two (omega arith) (omega arith) in rw (form_as s) (cc)

pub returns-in-2048-to-65535 : goal.returns-in-2048-to-65535
returns-in-2048-to-65535 c = let s : Sized c.args.c 3 = in_three (omega arith) (omega arith) in rw (form_as s) (cc)

pub returns-in_default : goal.returns-in_default
returns-in_default c = let s : Sized c.args.c 4 = in_four (omega arith) in rw (form_as s) (cc)
