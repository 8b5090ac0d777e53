-- vstd's counts at worked values of 8 bits, computed by its halving: 00, 01, 80, ff, 50 and f7.
use mathlib.Core.Path.{◌≡◌, refl}
use Rattle.vstd_zeros.specs.Zeros.{trailing_halving, leading_halving, vstd_trailing_zeros, vstd_leading_zeros, vstd_trailing_ones, vstd_leading_ones}

pub trailing_zeros_worked :
    (vstd_trailing_zeros 8 0x00 ≡ 8) × (vstd_trailing_zeros 8 0x01 ≡ 0) × (vstd_trailing_zeros 8 0x80 ≡ 7)
    × (vstd_trailing_zeros 8 0xff ≡ 0) × (vstd_trailing_zeros 8 0x50 ≡ 4) × (vstd_trailing_zeros 8 0xf7 ≡ 0)
unfolding vstd_trailing_zeros trailing_halving
trailing_zeros_worked = (refl, refl, refl, refl, refl, refl)

pub leading_zeros_worked :
    (vstd_leading_zeros 8 0x00 ≡ 8) × (vstd_leading_zeros 8 0x01 ≡ 7) × (vstd_leading_zeros 8 0x80 ≡ 0)
    × (vstd_leading_zeros 8 0xff ≡ 0) × (vstd_leading_zeros 8 0x50 ≡ 1) × (vstd_leading_zeros 8 0xf7 ≡ 0)
unfolding vstd_leading_zeros leading_halving
leading_zeros_worked = (refl, refl, refl, refl, refl, refl)

pub trailing_ones_worked :
    (vstd_trailing_ones 8 0x00 ≡ 0) × (vstd_trailing_ones 8 0x01 ≡ 1) × (vstd_trailing_ones 8 0x80 ≡ 0)
    × (vstd_trailing_ones 8 0xff ≡ 8) × (vstd_trailing_ones 8 0x50 ≡ 0) × (vstd_trailing_ones 8 0xf7 ≡ 3)
unfolding vstd_trailing_ones vstd_trailing_zeros trailing_halving
trailing_ones_worked = (refl, refl, refl, refl, refl, refl)

pub leading_ones_worked :
    (vstd_leading_ones 8 0x00 ≡ 0) × (vstd_leading_ones 8 0x01 ≡ 0) × (vstd_leading_ones 8 0x80 ≡ 1)
    × (vstd_leading_ones 8 0xff ≡ 8) × (vstd_leading_ones 8 0x50 ≡ 0) × (vstd_leading_ones 8 0xf7 ≡ 4)
unfolding vstd_leading_ones vstd_leading_zeros leading_halving
leading_ones_worked = (refl, refl, refl, refl, refl, refl)
