-- The order of whole numbers as an answer, and what can be read off it.
use Rattle.std.specs.Prelude.{ℤ, pos, negsuc, eqb, Bool, true, false, cond}
use Rattle.std.specs.Int.Signed.{lt_z}
use Rattle.std.specs.declared.cmp.Ordering.{Ordering}
use Rattle.std.specs.declared.cmp.Ordering.TheVariants.{Less, Equal, Greater}

unfoldable pub order : ℤ → ℤ → Ordering
order x y = cond (lt_z x y) Less (cond (lt_z y x) Greater Equal)

abbrev pub eq_z : ℤ → ℤ → Bool
eq_z (pos a) (pos b) = eqb a b
eq_z (pos a) (negsuc b) = false
eq_z (negsuc a) (pos b) = false
eq_z (negsuc a) (negsuc b) = eqb a b

abbrev pub is_less : Ordering → Bool
is_less Less = true
is_less Equal = false
is_less Greater = false

abbrev pub is_equal : Ordering → Bool
is_equal Less = false
is_equal Equal = true
is_equal Greater = false

abbrev pub is_greater : Ordering → Bool
is_greater Less = false
is_greater Equal = false
is_greater Greater = true

-- as Rust numbers the three
abbrev pub numbered : Ordering → ℤ
numbered Less = negsuc 0
numbered Equal = pos 0
numbered Greater = pos 1
