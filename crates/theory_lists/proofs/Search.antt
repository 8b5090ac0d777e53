-- How a search goes on, a place or a block at a time, from the front and from the back; that it has one answer; and what it asks of a part.
use mathlib.Core.Path.{◌≡◌, refl, sym, ap, ◌∙◌}
use mathlib.Core.Bool.{Bool, true, false, true≢false, ◌&&◌, ◌||◌}
use mathlib.Core.List.{List}
use mathlib.Core.Logic.{◌⊎◌, inl, inr, ⊎_elim}
use Prim.Native.Nat.{ℕ, ◌+◌, ◌-◌, ◌≤◌, ◌<◌}
use native.Mathlib.Decide.{dec_lt}
use native.Mathlib.Omega.{arith}
use lib.ListN.{length, get_or, drop, length-take}
use lib.Seq.{ext_get_or}
use borrow.Author.Tests.{eqb-true, eq-eqb}
use Rattle.theory_answers.specs.Says.{Says}
use Rattle.theory_answers.proofs.Says.{says_alike}
use Rattle.theory_answers.proofs.Tests.{says_both, says_either}
use Rattle.theory_lists.specs.Search.{Each, All, None, Any, First, Last, Until, holds_at, alike_at}
use Rattle.theory_lists.specs.Part.{part, Within}
use Rattle.theory_lists.proofs.Part.{length_part, get_d_part}

true_or_false : (b : Bool) → b ≡ true → b ≡ false → ⊥
true_or_false b e f = true≢false (sym e ∙ f)

-- ---- the same answer everywhere

module _ (b : Bool) (q : ℕ → Bool) where
  pub each_start : (f : ℕ) → Each b q f f
  each_start f k h l = absurd (omega arith)

  pub each_one : (i : ℕ) → q i ≡ b → Each b q i (i + 1)
  each_one i e k h l = let same : k ≡ i = omega arith in rw same e

  -- one block after another
  pub each_join : (f m t : ℕ) → Each b q f m → Each b q m t → Each b q f t
  each_join f m t x y k h l = go (dec_lt k m)
    where
      go : Dec (k < m) → q k ≡ b
      go (yes p) = x k h p
      go (no p) = y k (omega arith) l

  -- fewer places
  pub each_less : (f t a e : ℕ) → f ≤ a → e ≤ t → Each b q f t → Each b q a e
  each_less f t a e h l x k m n = x k (omega arith) (omega arith)

-- ---- somewhere

says_test : (b : Bool) → Says b (b ≡ true)
says_test true = refl
says_test false = λ e. true_or_false false e refl

module _ (q : ℕ → Bool) where
  pub any_one : (i : ℕ) → q i ≡ true → Any q i (i + 1)
  any_one i e = record { place = i; after = omega arith; before = omega arith; holds = e }

  -- more places
  pub any_more : (f t a e : ℕ) → f ≤ a → e ≤ t → Any q a e → Any q f t
  any_more f t a e h l x = record { place = x.place; after = omega (arith, x.after); before = omega (arith, x.before); holds = x.holds }

  pub any_in_either : (f m t : ℕ) → Any q f t → Any q f m ⊎ Any q m t
  any_in_either f m t x = go (dec_lt x.place m)
    where
      go : Dec (x.place < m) → Any q f m ⊎ Any q m t
      go (yes p) = inl (record { place = x.place; after = x.after; before = p; holds = x.holds })
      go (no p) = inr (record { place = x.place; after = omega arith; before = x.before; holds = x.holds })

  pub none_is_not_any : (f t : ℕ) → None q f t → Any q f t → ⊥
  none_is_not_any f t n x = true_or_false (q x.place) x.holds (n x.place x.after x.before)

  pub not_any_is_none : (f t : ℕ) → (Any q f t → ⊥) → None q f t
  not_any_is_none f t n k h l = go (q k) refl
    where
      go : (b : Bool) → q k ≡ b → q k ≡ false
      go true e = absurd (n (record { place = k; after = h; before = l; holds = e }))
      go false e = e

  -- ---- a test of many places: with the next place, and with a last block that may begin inside those before

  pub says_all_next : (ok : Bool) (f i : ℕ) → f ≤ i → Says ok (All q f i) → Says (ok && q i) (All q f (i + 1))
  says_all_next ok f i h k =
      says_alike (ok && q i) (λ p. each_join true q f i (i + 1) p.0 (each_one true q i p.1))
      (λ a. (each_less true q f (i + 1) f i (omega arith) (omega arith) a, a i h (omega arith)))
      (says_both ok (q i) (All q f i) (q i ≡ true) k (says_test (q i)))

  pub says_any_next : (ok : Bool) (f i : ℕ) → f ≤ i → Says ok (Any q f i) → Says (ok || q i) (Any q f (i + 1))
  says_any_next ok f i h k =
      says_alike (ok || q i)
      (λ p. ⊎_elim (any_more f (i + 1) f i (omega arith) (omega arith)) (λ e. any_more f (i + 1) i (i + 1) h (omega arith) (any_one i e)) p)
      (λ a. ⊎_elim inl (λ x. let same : i ≡ x.place = omega (arith, x.after, x.before) in inr (ap q same ∙ x.holds)) (any_in_either f i (i + 1) a))
      (says_either ok (q i) (Any q f i) (q i ≡ true) k (says_test (q i)))

  pub says_all_rest : (ok : Bool) (f i last t : ℕ) → f ≤ last → last ≤ i → All q f i → Says ok (All q last t) → Says ok (All q f t)
  says_all_rest ok f i last t h l a =
      says_alike ok (each_join true q f last t (each_less true q f i f last (omega arith) l a)) (each_less true q f t last t h (omega arith))

  pub says_any_rest : (ok : Bool) (f i last t : ℕ) → f ≤ last → last ≤ i → None q f i → Says ok (Any q last t) → Says ok (Any q f t)
  says_any_rest ok f i last t h l n =
      says_alike ok (any_more f t last t h (omega arith))
      (λ a. ⊎_elim (λ x. absurd (none_is_not_any f last (each_less false q f i f last (omega arith) l n) x)) (λ x. x) (any_in_either f last t a))

  -- ---- the first and the last

  -- behind a block that is clear
  pub first_behind : {f m t k : ℕ} → f ≤ m → None q f m → First q m t k → First q f t k
  first_behind {f} {m} {t} {k} h n x =
      record { after = omega (arith, x.after); before = x.before; holds = x.holds; none = each_join false q f m k n x.none }

  -- before one
  pub last_before : {f m t k : ℕ} → m ≤ t → None q m t → Last q f m k → Last q f t k
  last_before {f} {m} {t} {k} h n x =
      record { after = x.after; before = omega (arith, x.before); holds = x.holds; none = each_join false q (k + 1) m t x.none n }

  -- in the front of more places, and in the back of them
  pub first_in_front : {f m t k : ℕ} → m ≤ t → First q f m k → First q f t k
  first_in_front h x = record { after = x.after; before = omega (arith, x.before); holds = x.holds; none = x.none }

  pub last_in_back : {f m t k : ℕ} → f ≤ m → Last q m t k → Last q f t k
  last_in_back h x = record { after = omega (arith, x.after); before = x.before; holds = x.holds; none = x.none }

  pub first_is_any : {f t k : ℕ} → First q f t k → Any q f t
  first_is_any {f} {t} {k} x = record { place = k; after = x.after; before = x.before; holds = x.holds }

  pub last_is_any : {f t k : ℕ} → Last q f t k → Any q f t
  last_is_any {f} {t} {k} x = record { place = k; after = x.after; before = x.before; holds = x.holds }

  pub until_first : {f t k : ℕ} → Until q f t k → k < t → First q f t k
  until_first x l = record { after = x.after; before = l; holds = x.holds l; none = x.none }

  pub first_until : {f t k : ℕ} → First q f t k → Until q f t k
  first_until x = record { after = x.after; before = omega (arith, x.before); holds = λ l. x.holds; none = x.none }

  pub none_until : (f t : ℕ) → f ≤ t → None q f t → Until q f t t
  none_until f t h n = record { after = h; before = omega arith; holds = λ l. absurd (omega arith); none = n }

  -- ---- one question has one answer

  until_not_sooner : {f t k l : ℕ} → Until q f t k → Until q f t l → k < l → ⊥
  until_not_sooner {f} {t} {k} {l} x y h = true_or_false (q k) (x.holds (omega (arith, y.before))) (y.none k x.after h)

  pub pinned_until : {f t k l : ℕ} → Until q f t k → Until q f t l → k ≡ l
  pinned_until {f} {t} {k} {l} x y =
      let sooner : k < l → ⊥ = until_not_sooner x y in
      let later : l < k → ⊥ = until_not_sooner y x in
      omega arith

  pub pinned_first : {f t k l : ℕ} → First q f t k → First q f t l → k ≡ l
  pinned_first x y = pinned_until (first_until x) (first_until y)

  last_not_sooner : {f t k l : ℕ} → Last q f t k → Last q f t l → k < l → ⊥
  last_not_sooner {f} {t} {k} {l} x y h = true_or_false (q l) y.holds (x.none l (omega arith) y.before)

  pub pinned_last : {f t k l : ℕ} → Last q f t k → Last q f t l → k ≡ l
  pinned_last {f} {t} {k} {l} x y =
      let sooner : k < l → ⊥ = last_not_sooner x y in
      let later : l < k → ⊥ = last_not_sooner y x in
      omega arith

-- ---- a part, asked for itself: r is of its n places what q is of those of the whole

module _ (q r : ℕ → Bool) (f t n : ℕ) (same : (k : ℕ) → k < t - f → r k ≡ q (f + k)) where
  each_in : t - f ≤ n → (b : Bool) → Each b r 0 n → Each b q f t
  each_in m b x k h l =
      let e : f + (k - f) ≡ k = omega arith in
      ap q (sym e) ∙ sym (same (k - f) (omega arith)) ∙ x (k - f) (omega arith) (omega arith)

  each_of : n ≤ t - f → (b : Bool) → Each b q f t → Each b r 0 n
  each_of m b x k h l = same k (omega arith) ∙ x (f + k) (omega arith) (omega arith)

  any_in : n ≤ t - f → Any r 0 n → Any q f t
  any_in m x =
      let l : x.place < t - f = omega (arith, x.before) in
      record { place = f + x.place; after = omega arith; before = omega arith; holds = sym (same x.place l) ∙ x.holds }

  any_of : t - f ≤ n → Any q f t → Any r 0 n
  any_of m x =
      let l : x.place - f < t - f = omega (arith, x.after, x.before) in
      let e : f + (x.place - f) ≡ x.place = omega (arith, x.after) in
      record { place = x.place - f; after = omega arith; before = omega arith; holds = same (x.place - f) l ∙ ap q e ∙ x.holds }

-- a test of a byte

module _ (p : ℕ → Bool) (f t : ℕ) (s : List ℕ) where
  test_in_part : (k : ℕ) → k < t - f → holds_at p (part f t s) k ≡ holds_at p s (f + k)
  test_in_part k l = ap p (get_d_part f t s k l)

  pub each_in_part : Within f t s → (b : Bool) → Each b (holds_at p (part f t s)) 0 (length (part f t s)) → Each b (holds_at p s) f t
  each_in_part w = each_in (holds_at p s) (holds_at p (part f t s)) f t (length (part f t s)) test_in_part (omega (arith, length_part w))

  pub each_of_part : (b : Bool) → Each b (holds_at p s) f t → Each b (holds_at p (part f t s)) 0 (length (part f t s))
  each_of_part = each_of (holds_at p s) (holds_at p (part f t s)) f t (length (part f t s)) test_in_part (omega (arith, length-take (t - f) (drop f s)))

  pub any_in_part : Within f t s → Any (holds_at p (part f t s)) 0 (length (part f t s)) → Any (holds_at p s) f t
  any_in_part w = any_in (holds_at p s) (holds_at p (part f t s)) f t (length (part f t s)) test_in_part (omega (arith, length_part w))

  pub any_of_part : Within f t s → Any (holds_at p s) f t → Any (holds_at p (part f t s)) 0 (length (part f t s))
  any_of_part w = any_of (holds_at p s) (holds_at p (part f t s)) f t (length (part f t s)) test_in_part (omega (arith, length_part w))

pub says_any_part : (p : ℕ → Bool) {f t : ℕ} {s : List ℕ} → Within f t s → (ok : Bool) → Says ok (Any (holds_at p (part f t s)) 0 (length (part f t s)))
    → Says ok (Any (holds_at p s) f t)
says_any_part p {f} {t} {s} w ok = says_alike ok (any_in_part p f t s w) (any_of_part p f t s w)

-- ---- two lists, place by place

module _ (a b : List ℕ) where
  pub same_alike : (f t : ℕ) → a ≡ b → All (alike_at a b) f t
  same_alike f t e k h l = eq-eqb (get_or a k 0) (get_or b k 0) (ap (λ (s : List ℕ). get_or s k 0) e)

  pub alike_same : length a ≡ length b → All (alike_at a b) 0 (length a) → a ≡ b
  alike_same e x = ext_get_or 0 a b e (λ k l. eqb-true (get_or a k 0) (get_or b k 0) (x k (omega arith) l))

  pub says_same : (ok : Bool) → length a ≡ length b → Says ok (All (alike_at a b) 0 (length a)) → Says ok (a ≡ b)
  says_same ok e = says_alike ok (alike_same e) (same_alike 0 (length a))

module _ (a b : List ℕ) {f t : ℕ} (w : Within f t a) (v : Within f t b) where
  alike_in_part : (k : ℕ) → k < t - f → alike_at (part f t a) (part f t b) k ≡ alike_at a b (f + k)
  alike_in_part k l = rw (get_d_part f t a k l, get_d_part f t b k l)

  pub alike_in_parts : part f t a ≡ part f t b → All (alike_at a b) f t
  alike_in_parts e =
      each_in (alike_at a b) (alike_at (part f t a) (part f t b)) f t (t - f) alike_in_part (omega arith) true (same_alike (part f t a) (part f t b) 0 (t - f) e)

  pub parts_alike : All (alike_at a b) f t → part f t a ≡ part f t b
  parts_alike x =
      alike_same (part f t a) (part f t b) (length_part w ∙ sym (length_part v))
      (each_of (alike_at a b) (alike_at (part f t a) (part f t b)) f t (length (part f t a)) alike_in_part (omega (arith, length_part w)) true x)

pub says_same_part : (a b : List ℕ) (ok : Bool) {f t : ℕ} → Within f t a → Within f t b → Says ok (part f t a ≡ part f t b) → Says ok (All (alike_at a b) f t)
says_same_part a b ok w v = says_alike ok (alike_in_parts a b w v) (parts_alike a b w v)
