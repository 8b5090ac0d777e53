-- Lists of numbers that are all below one: by index, of joined lists and of parts, and as a test of each place.
use mathlib.Core.Bool.{Bool, true}
use mathlib.Core.List.{List, [], ◌∷◌, ◌++◌, reverse, reverse-cons}
use Prim.Native.Nat.{ℕ, zero, suc, ◌-◌, ◌≤◌, ◌<◌}
use native.Mathlib.Omega.{arith}
use lib.ListN.{length, get_or, take, drop}
use borrow.Author.Tests.{lt-ltb, ltb-true}
use Rattle.theory_answers.specs.Says.{Says}
use Rattle.theory_answers.proofs.Says.{says_alike}
use Rattle.theory_lists.specs.Part.{part, Within}
use Rattle.theory_lists.specs.Bounds.{AllBelow}
use Rattle.theory_lists.specs.Search.{All, holds_at, below}
use Rattle.theory_lists.proofs.Search.{each_in_part, each_of_part}

pub below_at : (b i : ℕ) (ds : List ℕ) → AllBelow b ds → i < length ds → get_or ds i 0 < b
unfolding AllBelow
below_at b i [] h l = absurd (omega arith)
below_at b zero (d ∷ ds) h l = h.0
below_at b (suc i) (d ∷ ds) h l = below_at b i ds h.1 (omega arith)

pub all_below : (b : ℕ) (ds : List ℕ) → ((i : ℕ) → i < length ds → get_or ds i 0 < b) → AllBelow b ds
unfolding AllBelow
all_below b [] f = tt
all_below b (d ∷ ds) f = (f 0 (omega arith), all_below b ds (λ i l. f (suc i) (omega arith)))

pub below_take : (b k : ℕ) (ds : List ℕ) → AllBelow b ds → AllBelow b (take k ds)
unfolding AllBelow
below_take b zero ds h = tt
below_take b (suc k) [] h = tt
below_take b (suc k) (d ∷ ds) h = (h.0, below_take b k ds h.1)

pub below_drop : (b k : ℕ) (ds : List ℕ) → AllBelow b ds → AllBelow b (drop k ds)
unfolding AllBelow
below_drop b zero ds h = h
below_drop b (suc k) [] h = tt
below_drop b (suc k) (d ∷ ds) h = below_drop b k ds h.1

pub below_append : (b : ℕ) (ds es : List ℕ) → AllBelow b ds → AllBelow b es → AllBelow b (ds ++ es)
unfolding AllBelow
below_append b [] es h g = g
below_append b (d ∷ ds) es h g = (h.0, below_append b ds es h.1 g)

pub below_parts : (b : ℕ) (ds es : List ℕ) → AllBelow b (ds ++ es) → AllBelow b ds × AllBelow b es
unfolding AllBelow
below_parts b [] es h = (tt, h)
below_parts b (d ∷ ds) es h = let r = below_parts b ds es h.1 in ((h.0, r.0), r.1)

pub below_reverse : (b : ℕ) (ds : List ℕ) → AllBelow b ds → AllBelow b (reverse ds)
unfolding AllBelow
below_reverse b [] h = tt
below_reverse b (d ∷ ds) h = rw reverse-cons (below_append b (reverse ds) (d ∷ []) (below_reverse b ds h.1) (h.0, tt))

pub part_below : (b : ℕ) (s : List ℕ) (f t : ℕ) → AllBelow b s → AllBelow b (part f t s)
part_below b s f t h = below_take b (t - f) (drop f s) (below_drop b f s h)

-- ---- as a test of each place, of the whole and of a part

module _ (b : ℕ) (s : List ℕ) where
  each_is_below : AllBelow b s → All (holds_at (below b) s) 0 (length s)
  each_is_below h k l m = lt-ltb (get_or s k 0) b (below_at b k s h m)

  below_is_each : All (holds_at (below b) s) 0 (length s) → AllBelow b s
  below_is_each x = all_below b s (λ k l. ltb-true (get_or s k 0) b (x k (omega arith) l))

  pub says_below : (ok : Bool) → Says ok (All (holds_at (below b) s) 0 (length s)) → Says ok (AllBelow b s)
  says_below ok = says_alike ok below_is_each each_is_below

module _ (b : ℕ) (s : List ℕ) where
  pub below_is_all : {f t : ℕ} → Within f t s → AllBelow b (part f t s) → All (holds_at (below b) s) f t
  below_is_all {f} {t} w h = each_in_part (below b) f t s w true (each_is_below b (part f t s) h)

  pub below_in_part : {f t : ℕ} → Within f t s → AllBelow b (part f t s) → (j : ℕ) → f ≤ j → j < t → get_or s j 0 < b
  below_in_part w h j l m = ltb-true (get_or s j 0) b (below_is_all w h j l m)

  pub all_is_below : (f t : ℕ) → All (holds_at (below b) s) f t → AllBelow b (part f t s)
  all_is_below f t x = below_is_each b (part f t s) (each_of_part (below b) f t s true x)

  pub says_part_below : (ok : Bool) {f t : ℕ} → Within f t s → Says ok (AllBelow b (part f t s)) → Says ok (All (holds_at (below b) s) f t)
  says_part_below ok {f} {t} w = says_alike ok (below_is_all w) (all_is_below f t)
