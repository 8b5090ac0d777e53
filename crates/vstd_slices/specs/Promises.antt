-- What each export promises of the part from f to t of s, which is vstd's slice. Each is ok exactly where there is such a part and what vstd demands or tests
-- holds; then vstd's clause holds, of the places that are answered too; of a refusal every value is 0 or false, and a slice that was lent is as it was.
use Rattle.std.specs.Prelude.{◌≡◌, Bool, false, List, ℕ, ◌+◌, ◌-◌, ◌≤◌, ◌<◌, min, length, get_or}
use Rattle.theory_answers.specs.Says.{Says, Outcome}
use Rattle.theory_lists.specs.Part.{part, Within, Has}
use Rattle.vstd_slices.specs.Slices as vstd

-- ---- elements

abbrev pub Len : Bool → ℕ → List ℕ → ℕ → ℕ → Type 0
Len ok n s f t = Outcome ok (Within f t s) (n ≡ length (part f t s)) (n ≡ 0)

abbrev pub IsEmpty : Bool → Bool → List ℕ → ℕ → ℕ → Type 0
IsEmpty ok b s f t = Outcome ok (Within f t s) (Says b (length (part f t s) ≡ 0)) (b ≡ false)

abbrev pub Get : Bool → ℕ → List ℕ → ℕ → ℕ → ℕ → Type 0
Get ok x s f t i = Outcome ok (Within f t s × (i < length (part f t s))) (x ≡ get_or (part f t s) i 0) (x ≡ 0)

abbrev pub First : Bool → ℕ → List ℕ → ℕ → ℕ → Type 0
First ok x s f t = Outcome ok (Within f t s × (0 < length (part f t s))) (x ≡ get_or (part f t s) 0 0) (x ≡ 0)

abbrev pub Last : Bool → ℕ → List ℕ → ℕ → ℕ → Type 0
Last ok x s f t = Outcome ok (Within f t s × (0 < length (part f t s))) (x ≡ get_or (part f t s) (length (part f t s) - 1) 0) (x ≡ 0)

-- ---- places

-- the places x and y of s are those from i to j of its part from f to t, and vstd's subrange stands there
pub record Places (x y : ℕ) (s : List ℕ) (f t i j : ℕ) : Type 0 where
  pub begins : x ≡ f + i
  pub ends : y ≡ f + j
  pub subrange : vstd.Subrange (part f t s) i j (part x y s)

abbrev pub SubRange : Bool → ℕ → ℕ → List ℕ → ℕ → ℕ → ℕ → ℕ → Type 0
SubRange ok x y s f t a e = Outcome ok (Within f t s × Within a e (part f t s)) (Places x y s f t a e) ((x ≡ 0) × (y ≡ 0))

abbrev pub SplitAt : Bool → ℕ → ℕ → ℕ → List ℕ → ℕ → ℕ → ℕ → Type 0
SplitAt ok x m y s f t mid =
    Outcome ok (Within f t s × (mid ≤ length (part f t s)))
    (Places x m s f t 0 mid × Places m y s f t mid (length (part f t s)))
    ((x ≡ 0) × (m ≡ 0) × (y ≡ 0))

abbrev pub SplitFirst : Bool → ℕ → ℕ → ℕ → List ℕ → ℕ → ℕ → Type 0
SplitFirst ok first x y s f t =
    Outcome ok (Within f t s × (0 < length (part f t s)))
    ((first ≡ get_or (part f t s) 0 0) × Places x y s f t 1 (length (part f t s)))
    ((first ≡ 0) × (x ≡ 0) × (y ≡ 0))

-- the first of vstd's chunks of n
abbrev pub NextPiece : Bool → ℕ → ℕ → List ℕ → ℕ → ℕ → ℕ → Type 0
NextPiece ok x y s f t n =
    Outcome ok (Within f t s × (0 < length (part f t s)) × (0 < n)) (Places x y s f t 0 (min n (length (part f t s)))) ((x ≡ 0) × (y ≡ 0))

-- ---- tests

abbrev pub StartsWith : Bool → Bool → List ℕ → ℕ → ℕ → List ℕ → Type 0
StartsWith ok b s f t needle = Outcome ok (Within f t s) (Says b (vstd.StartsWith (part f t s) needle)) (b ≡ false)

abbrev pub EndsWith : Bool → Bool → List ℕ → ℕ → ℕ → List ℕ → Type 0
EndsWith ok b s f t needle = Outcome ok (Within f t s) (Says b (vstd.EndsWith (part f t s) needle)) (b ≡ false)

abbrev pub Contains : Bool → Bool → List ℕ → ℕ → ℕ → ℕ → Type 0
Contains ok b s f t v = Outcome ok (Within f t s) (Says b (Has v (part f t s))) (b ≡ false)

abbrev pub Equal : Bool → Bool → List ℕ → ℕ → ℕ → List ℕ → Type 0
Equal ok b s f t other = Outcome ok (Within f t s) (Says b (vstd.SameElements (part f t s) other)) (b ≡ false)

-- ---- what is written: s becomes s'

abbrev pub Set : Bool → List ℕ → List ℕ → ℕ → ℕ → ℕ → ℕ → Type 0
Set ok s s' f t i v = Outcome ok (Within f t s × (i < length (part f t s))) (vstd.Updated s (f + i) v s') (s' ≡ s)

abbrev pub Reverse : Bool → List ℕ → List ℕ → ℕ → ℕ → Type 0
Reverse ok s s' f t =
    Outcome ok (Within f t s) (vstd.Reversed (part f t s) (part f t s') × vstd.PartReplaced s s' f t (part f t s')) (s' ≡ s)

abbrev pub CopyFrom : Bool → List ℕ → List ℕ → ℕ → ℕ → List ℕ → Type 0
CopyFrom ok s s' f t other = Outcome ok (Within f t s × (length other ≡ length (part f t s))) (vstd.PartReplaced s s' f t other) (s' ≡ s)

abbrev pub CopyWithin : Bool → List ℕ → List ℕ → ℕ → ℕ → ℕ → Type 0
CopyWithin ok s s' f t at = Outcome ok (Within f t s × (at + (t - f) ≤ length s)) (vstd.CopiedWithin s f t at s') (s' ≡ s)
