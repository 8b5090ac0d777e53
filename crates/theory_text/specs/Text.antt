-- Text. Bytes are valid exactly if some sequence of scalar values is written as them; proofs/Unique.antt has that there is only one.
use Rattle.std.specs.Prelude.{ℕ, ◌≡◌, Bool, List, [], ◌∷◌, ◌++◌}
use Rattle.theory_answers.specs.Says.{Outcome}
use Rattle.theory_text.specs.Scalar.{Scalar, len, form}

abbrev pub Scalars : List ℕ → Type 0
Scalars [] = Unit {0}
Scalars (c ∷ cs) = Scalar c × Scalars cs

abbrev pub encode : List ℕ → List ℕ
encode [] = []
encode (c ∷ cs) = form c ++ encode cs

abbrev pub Valid : List ℕ → Type 0
Valid bs = (cs : List ℕ) × Scalars cs × (encode cs ≡ bs)

-- the form of the scalar c stands at the front of bs, or at its end
abbrev pub Begins : ℕ → List ℕ → Type 0
Begins c bs = Scalar c × ((r : List ℕ) × (form c ++ r ≡ bs))

abbrev pub Ends : ℕ → List ℕ → Type 0
Ends c bs = Scalar c × ((r : List ℕ) × (r ++ form c ≡ bs))

-- what reading one scalar answers, its value and how many bytes it has: `Is c` says that c is the one asked for; refused where none is there, and then both are 0
abbrev pub ReadIs : (ℕ → Type 0) → Bool → ℕ → ℕ → Type 0
ReadIs Is ok value length = Outcome ok ((c : ℕ) × Is c) (Is value × (length ≡ len value)) ((value ≡ 0) × (length ≡ 0))
