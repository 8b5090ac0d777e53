-- A number by the length of its form: the cases of a proof.
use mathlib.Core.Path.{◌≡◌, refl, ap}
use Prim.Native.Nat.{ℕ, ◌<◌, ◌≤◌}
use native.Mathlib.Omega.{arith}
use lib.ListN.{length}
use borrow.Author.Tests.{lt-ltb, le-ltb}
use Rattle.theory_text.specs.Scalar.{len, formed, form}
use Rattle.theory_text.proofs.Tests.{by_ltb}

pub data Sized (c : ℕ) : ℕ → Type 0 where
  in_one : c < 0x80 → Sized c 1
  in_two : 0x80 ≤ c → c < 0x800 → Sized c 2
  in_three : 0x800 ≤ c → c < 0x10000 → Sized c 3
  in_four : 0x10000 ≤ c → Sized c 4

pub sized : (c : ℕ) → Sized c (len c)
unfolding len
sized c =
    by_ltb (Sized c) c 0x80 in_one
    (λ l. by_ltb (Sized c) c 0x800 (in_two l)
    (λ l'. by_ltb (Sized c) c 0x10000 (in_three l') in_four))

pub len_is : {c n : ℕ} → Sized c n → len c ≡ n
unfolding len
len_is {c} (in_one h) = rw (lt-ltb c 0x80 h)
len_is {c} (in_two l h) = rw (le-ltb c 0x80 l, lt-ltb c 0x800 h)
len_is {c} (in_three l h) = let k : 0x80 ≤ c = omega arith in rw (le-ltb c 0x80 k, le-ltb c 0x800 l, lt-ltb c 0x10000 h)
len_is {c} (in_four l) =
    let k : 0x80 ≤ c = omega arith in
    let m : 0x800 ≤ c = omega arith in
    rw (le-ltb c 0x80 k, le-ltb c 0x800 m, le-ltb c 0x10000 l)

size_bounds : {c n : ℕ} → Sized c n → (0 < n) × (n ≤ 4)
size_bounds (in_one h) = omega arith
size_bounds (in_two l h) = omega arith
size_bounds (in_three l h) = omega arith
size_bounds (in_four l) = omega arith

pub len_some : (c : ℕ) → 0 < len c
len_some c = (size_bounds (sized c)).0

pub len_most : (c : ℕ) → len c ≤ 4
len_most c = (size_bounds (sized c)).1

length_formed : {c n : ℕ} → Sized c n → length (formed n c) ≡ n
length_formed (in_one h) = refl
length_formed (in_two l h) = refl
length_formed (in_three l h) = refl
length_formed (in_four l) = refl

pub length_form : (c : ℕ) → length (form c) ≡ len c
length_form c = length_formed (sized c)

pub form_as : {c n : ℕ} → Sized c n → form c ≡ formed n c
form_as {c} s = ap (λ (n : ℕ). formed n c) (len_is s)
