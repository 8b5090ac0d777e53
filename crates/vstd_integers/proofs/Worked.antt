-- vstd's clauses at worked values of 8 bits, computed: near the ends of the types, for each sign of dividend and divisor, and for divisor 0.
use mathlib.Core.Path.{◌≡◌, refl}
use mathlib.Core.Bool.{true, false}
use lib.IntN.{pos, negsuc}
use Rattle.std.specs.declared.cmp.Ordering.TheVariants.{Less, Equal, Greater}
use Rattle.theory_whole.specs.Division.{ediv, ◌modulo◌}
use Rattle.std.specs.Prelude.{Some, None}
use Rattle.vstd_integers.specs.Unsigned as u
use Rattle.vstd_integers.specs.Signed as i
use Rattle.vstd_integers.specs.Compare.{cmp, eq, ne, lt, le, gt, ge}

-- ---- unsigned

pub unsigned_wrapping :
    (u.wrapping_add 8 (pos 200) (pos 100) ≡ pos 44)
    × (u.wrapping_add_signed 8 (pos 3) (negsuc 4) ≡ pos 254)
    × (u.wrapping_sub 8 (pos 3) (pos 5) ≡ pos 254)
    × (u.wrapping_mul 8 (pos 16) (pos 17) ≡ pos 16)
    × (u.wrapping_shl 8 (pos 1) 9 ≡ pos 2)
    × (u.wrapping_shr 8 (pos 128) 15 ≡ pos 1)
unfolding u.wrapping_add u.wrapping_add_signed u.wrapping_sub u.wrapping_mul u.wrapping_shl u.wrapping_shr ediv ◌modulo◌
unsigned_wrapping = (refl, refl, refl, refl, refl, refl)

pub unsigned_checked :
    (u.checked_add 8 (pos 200) (pos 55) ≡ Some (pos 255))
    × (u.checked_add 8 (pos 200) (pos 56) ≡ None)
    × (u.checked_add_signed 8 (pos 4) (negsuc 3) ≡ Some (pos 0))
    × (u.checked_add_signed 8 (pos 4) (negsuc 4) ≡ None)
    × (u.checked_sub 8 (pos 5) (pos 5) ≡ Some (pos 0))
    × (u.checked_sub 8 (pos 5) (pos 6) ≡ None)
    × (u.checked_mul 8 (pos 51) (pos 5) ≡ Some (pos 255))
    × (u.checked_mul 8 (pos 16) (pos 16) ≡ None)
unfolding u.checked_add u.checked_add_signed u.checked_sub u.checked_mul
unsigned_checked = (refl, refl, refl, refl, refl, refl, refl, refl)

pub unsigned_divided :
    (u.checked_div 8 (pos 7) (pos 3) ≡ Some (pos 2))
    × (u.checked_div 8 (pos 7) (pos 0) ≡ None)
    × (u.checked_rem 8 (pos 7) (pos 3) ≡ Some (pos 1))
    × (u.checked_rem 8 (pos 7) (pos 0) ≡ None)
    × (u.checked_next_multiple_of 8 (pos 250) (pos 7) ≡ Some (pos 252))
    × (u.checked_next_multiple_of 8 (pos 250) (pos 16) ≡ None)
    × (u.checked_next_multiple_of 8 (pos 255) (pos 2) ≡ None)
    × (u.checked_next_multiple_of 8 (pos 7) (pos 0) ≡ None)
unfolding u.checked_div u.checked_rem u.checked_next_multiple_of u.next_multiple_of ediv ◌modulo◌
unsigned_divided = (refl, refl, refl, refl, refl, refl, refl, refl)

pub unsigned_saturating :
    (u.saturating_add 8 (pos 200) (pos 100) ≡ pos 255)
    × (u.saturating_sub 8 (pos 3) (pos 5) ≡ pos 0)
    × (u.saturating_mul 8 (pos 16) (pos 17) ≡ pos 255)
    × (u.saturating_mul 8 (pos 15) (pos 17) ≡ pos 255)
unfolding u.saturating_add u.saturating_sub u.saturating_mul
unsigned_saturating = (refl, refl, refl, refl)

pub unsigned_multiples :
    (u.is_multiple_of (pos 6) (pos 3) ≡ true)
    × (u.is_multiple_of (pos 7) (pos 3) ≡ false)
    × (u.is_multiple_of (pos 0) (pos 0) ≡ true)
    × (u.is_multiple_of (pos 7) (pos 0) ≡ false)
unfolding u.is_multiple_of ◌modulo◌
unsigned_multiples = (refl, refl, refl, refl)

-- ---- signed

pub signed_wrapping :
    (i.wrapping_add 8 (pos 100) (pos 100) ≡ negsuc 55)
    × (i.wrapping_add_unsigned 8 (negsuc 99) (pos 200) ≡ pos 100)
    × (i.wrapping_sub 8 (negsuc 127) (pos 1) ≡ pos 127)
    × (i.wrapping_sub 8 (pos 127) (negsuc 0) ≡ negsuc 127)
    × (i.wrapping_mul 8 (negsuc 127) (negsuc 0) ≡ negsuc 127)
    × (i.wrapping_shl 8 (pos 1) 7 ≡ negsuc 127)
    × (i.wrapping_shl 8 (pos 3) 8 ≡ pos 3)
    × (i.wrapping_shr 8 (negsuc 6) 9 ≡ negsuc 3)
unfolding i.wrapping_add i.wrapping_add_unsigned i.wrapping_sub i.wrapping_mul i.wrapping_shl i.wrapping_shr i.signed_crop ediv ◌modulo◌
signed_wrapping = (refl, refl, refl, refl, refl, refl, refl, refl)

pub signed_checked :
    (i.checked_add 8 (pos 100) (pos 27) ≡ Some (pos 127))
    × (i.checked_add 8 (pos 100) (pos 28) ≡ None)
    × (i.checked_add_unsigned 8 (negsuc 127) (pos 255) ≡ Some (pos 127))
    × (i.checked_add_unsigned 8 (negsuc 126) (pos 255) ≡ None)
    × (i.checked_sub 8 (negsuc 99) (pos 28) ≡ Some (negsuc 127))
    × (i.checked_sub 8 (negsuc 99) (pos 29) ≡ None)
    × (i.checked_sub_unsigned 8 (pos 127) (pos 255) ≡ Some (negsuc 127))
    × (i.checked_sub_unsigned 8 (pos 126) (pos 255) ≡ None)
    × (i.checked_mul 8 (negsuc 15) (pos 8) ≡ Some (negsuc 127))
    × (i.checked_mul 8 (negsuc 127) (negsuc 0) ≡ None)
unfolding i.checked_add i.checked_add_unsigned i.checked_sub i.checked_sub_unsigned i.checked_mul
signed_checked = (refl, refl, refl, refl, refl, refl, refl, refl, refl, refl)

-- each of the four for 7, 3 and the signs of both; then what is refused
pub signed_quotients :
    (i.checked_div 8 (pos 7) (pos 3) ≡ Some (pos 2))
    × (i.checked_div 8 (negsuc 6) (pos 3) ≡ Some (negsuc 1))
    × (i.checked_div 8 (pos 7) (negsuc 2) ≡ Some (negsuc 1))
    × (i.checked_div 8 (negsuc 6) (negsuc 2) ≡ Some (pos 2))
    × (i.checked_div_euclid 8 (pos 7) (pos 3) ≡ Some (pos 2))
    × (i.checked_div_euclid 8 (negsuc 6) (pos 3) ≡ Some (negsuc 2))
    × (i.checked_div_euclid 8 (pos 7) (negsuc 2) ≡ Some (negsuc 1))
    × (i.checked_div_euclid 8 (negsuc 6) (negsuc 2) ≡ Some (pos 3))
unfolding i.divided_unless ediv
signed_quotients = (refl, refl, refl, refl, refl, refl, refl, refl)

pub signed_remainders :
    (i.checked_rem 8 (pos 7) (pos 3) ≡ Some (pos 1))
    × (i.checked_rem 8 (negsuc 6) (pos 3) ≡ Some (negsuc 0))
    × (i.checked_rem 8 (pos 7) (negsuc 2) ≡ Some (pos 1))
    × (i.checked_rem 8 (negsuc 6) (negsuc 2) ≡ Some (negsuc 0))
    × (i.checked_rem_euclid 8 (pos 7) (pos 3) ≡ Some (pos 1))
    × (i.checked_rem_euclid 8 (negsuc 6) (pos 3) ≡ Some (pos 2))
    × (i.checked_rem_euclid 8 (pos 7) (negsuc 2) ≡ Some (pos 1))
    × (i.checked_rem_euclid 8 (negsuc 6) (negsuc 2) ≡ Some (pos 2))
unfolding i.divided_unless ◌modulo◌
signed_remainders = (refl, refl, refl, refl, refl, refl, refl, refl)

pub signed_refusals :
    (i.checked_div 8 (negsuc 127) (negsuc 0) ≡ None)
    × (i.checked_rem 8 (negsuc 127) (negsuc 0) ≡ None)
    × (i.checked_div_euclid 8 (negsuc 127) (negsuc 0) ≡ None)
    × (i.checked_rem_euclid 8 (negsuc 127) (negsuc 0) ≡ None)
    × (i.checked_div 8 (pos 7) (pos 0) ≡ None)
    × (i.checked_div 8 (negsuc 126) (negsuc 0) ≡ Some (pos 127))
unfolding i.divided_unless
signed_refusals = (refl, refl, refl, refl, refl, refl)

-- ---- comparing

pub compared :
    (cmp (negsuc 0) (pos 0) ≡ Less)
    × (cmp (pos 3) (pos 3) ≡ Equal)
    × (cmp (pos 1) (negsuc 0) ≡ Greater)
    × (eq (pos 3) (pos 3) ≡ true)
    × (ne (pos 3) (pos 3) ≡ false)
    × (lt (pos 3) (pos 3) ≡ false)
    × (le (pos 3) (pos 3) ≡ true)
    × (gt (pos 3) (pos 3) ≡ false)
    × (ge (pos 3) (pos 3) ≡ true)
unfolding cmp eq ne lt le gt ge
compared = (refl, refl, refl, refl, refl, refl, refl, refl, refl)
