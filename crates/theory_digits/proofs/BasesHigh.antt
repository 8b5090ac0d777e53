-- Regrouping of digits that stand highest first: bounds, that neither way joins two lists, digits that make a single one, and how each goes on from
-- one digit to the next. Each law is that of the reversed list.
use mathlib.Core.Path.{◌≡◌, ◌∙◌}
use mathlib.Core.List.{List, [], ◌∷◌, ◌++◌, reverse, reverse-cons, reverse-append}
use Prim.Native.Nat.{ℕ, suc, ◌*◌, ◌^◌, ◌<◌}
use lib.ListN.{length, length-reverse}
use lib.Seq.{take_at, drop_at}
use Rattle.theory_lists.specs.Bounds.{AllBelow}
use Rattle.theory_lists.proofs.Below.{below_reverse}
use Rattle.theory_lists.specs.Pieces.{first_pieces}
use Rattle.theory_digits.specs.Digits.{digits_high, value_high}
use Rattle.theory_digits.specs.Bases.{larger, smaller, larger_high, smaller_high}
use Rattle.theory_digits.proofs.High.{reverse_injective}
use Rattle.theory_digits.proofs.Bases.{smaller_below, larger_injective, smaller_injective, larger_one}

pub smaller_high_below : (b k : ℕ) (ds : List ℕ) → 0 < b → AllBelow b (smaller_high b k ds)
smaller_high_below b k ds p = below_reverse b (smaller b k (reverse ds)) (smaller_below b k (reverse ds) p)

pub larger_high_injective : (b m n k : ℕ) → 0 < b → (ds es : List ℕ) → AllBelow b ds → AllBelow b es
    → length ds ≡ m * k → length es ≡ n * k → larger_high b m k ds ≡ larger_high b n k es → ds ≡ es
larger_high_injective b m n k p ds es h g l l' e =
    reverse_injective ds es
    (larger_injective b m n k p (reverse ds) (reverse es) (below_reverse b ds h) (below_reverse b es g) (length-reverse ds ∙ l) (length-reverse es ∙ l')
    (reverse_injective (larger b m k (reverse ds)) (larger b n k (reverse es)) e))

pub smaller_high_injective : (b k : ℕ) → 0 < b → 0 < k → (ds es : List ℕ) → AllBelow (b ^ k) ds → AllBelow (b ^ k) es
    → smaller_high b k ds ≡ smaller_high b k es → ds ≡ es
smaller_high_injective b k p some ds es h g e =
    reverse_injective ds es
    (smaller_injective b k p some (reverse ds) (reverse es) (below_reverse (b ^ k) ds h) (below_reverse (b ^ k) es g)
    (reverse_injective (smaller b k (reverse ds)) (smaller b k (reverse es)) e))

pub larger_high_one : (b : ℕ) (ds : List ℕ) → larger_high b 1 (length ds) ds ≡ value_high b ds ∷ []
larger_high_one b ds = rw (← length-reverse ds, larger_one b (reverse ds))

-- ---- from one digit to the next

pub smaller_high_push_lowest : (b k d : ℕ) (ds : List ℕ) → smaller_high b k (ds ++ (d ∷ [])) ≡ smaller_high b k ds ++ digits_high b k d
unfolding smaller
smaller_high_push_lowest b k d ds = rw (reverse-append, reverse-append)

pub larger_high_push_lowest : (b m : ℕ) (ds es : List ℕ) → larger_high b (suc m) (length es) (ds ++ es) ≡ larger_high b m (length es) ds ++ (value_high b es ∷ [])
unfolding larger first_pieces
larger_high_push_lowest b m ds es =
    rw (reverse-append, take_at (reverse es) (reverse ds) (length es) (length-reverse es), drop_at (reverse es) (reverse ds) (length es) (length-reverse es))
    (reverse-cons (value_high b es) (larger b m (length es) (reverse ds)))
