-- Bytes are text exactly if reading them byte by byte ends between two scalars.
use mathlib.Core.Path.{◌≡◌, refl, sym, ap, ◌∙◌}
use mathlib.Core.Bool.{Bool, true, false}
use mathlib.Core.List.{List, [], ◌∷◌, ◌++◌}
use Prim.Native.Nat.{ℕ, zero, suc, ◌<◌}
use native.Mathlib.Omega.{arith}
use lib.ListN.{length, drop}
use Rattle.theory_whole.proofs.Cases.{by_test, never, both_are}
use Rattle.theory_lists.specs.Bounds.{between}
use Rattle.theory_text.specs.Text.{Valid}
use Rattle.theory_text.specs.Table.{Range, After, more, wrong, after, matches, followed, first}
use Rattle.theory_text.specs.Reading.{rest}
use Rattle.theory_text.specs.Automaton.{step, steps}
use Rattle.theory_text.proofs.Tests.{by_cond}
use Rattle.theory_text.proofs.Steps.{rest_stop, rest_step, along}
use Rattle.theory_text.proofs.Unique.{rest_valid, valid_rest}

pub steps_append : (q : After) (s t : List ℕ) → steps q (s ++ t) ≡ steps (steps q s) t
steps_append q [] t = refl
steps_append q (b ∷ s) t = steps_append (step q b) s t

steps_wrong : (s : List ℕ) → steps wrong s ≡ wrong
steps_wrong [] = refl
steps_wrong (b ∷ s) = steps_wrong s

-- nothing is left to follow
abbrev pub idle : After → Bool
idle wrong = false
idle (more []) = true
idle (more (r ∷ rs)) = false

-- bytes that match what must follow lead on; nothing else leads back between two scalars
matches_steps : (rs : List Range) (s : List ℕ) → matches rs s ≡ true → steps (more rs) s ≡ steps (more []) (drop (length rs) s)
matches_steps [] s e = refl
matches_steps (r ∷ rs) [] e = never e refl
matches_steps (r ∷ rs) (b ∷ s) e = let p = both_are (between r.low r.high b) (matches rs s) e in rw p.0 (matches_steps rs s p.1)

steps_matches : (rs : List Range) (s : List ℕ) → idle (steps (more rs) s) ≡ true → matches rs s ≡ true
steps_matches [] s e = refl
steps_matches (r ∷ rs) [] e = never e refl
steps_matches (r ∷ rs) (b ∷ s) e =
    by_test (between r.low r.high b)
    (λ t. rw t (steps_matches rs s (rw t at e)))
    (λ t. never (rw (t, steps_wrong s) at e) refl)

-- ---- by whole scalars
steps_follows : (a : After) (s : List ℕ) → 0 < followed a s → steps a s ≡ steps (more []) (drop (followed a s) (0 ∷ s))
steps_follows wrong s p = absurd (omega arith)
steps_follows (more rs) s p =
    by_cond (λ n. 0 < n → steps (more rs) s ≡ steps (more []) (drop n (0 ∷ s))) (matches rs s) (λ e q. matches_steps rs s e) (λ e q. absurd (omega arith)) p

drop_some : (n b c : ℕ) (s : List ℕ) → 0 < n → drop n (b ∷ s) ≡ drop n (c ∷ s)
drop_some zero b c s p = absurd (omega arith)
drop_some (suc n) b c s p = refl

pub steps_first : (s : List ℕ) → 0 < first s → steps (more []) s ≡ steps (more []) (drop (first s) s)
steps_first [] p = refl
steps_first (b ∷ s) p = steps_follows (after b) s p ∙ ap (steps (more [])) (drop_some (followed (after b) s) 0 b s p)

idle_follows : (a : After) (s : List ℕ) → idle (steps a s) ≡ true → 0 < followed a s
idle_follows wrong s e = never (rw steps_wrong at e) refl
idle_follows (more rs) s e = rw (steps_matches rs s e) (omega arith)

-- ---- so text is what leads back
pub steps_valid : (s : List ℕ) → steps (more []) s ≡ more [] → Valid s
steps_valid s e = rest_valid s (go s (ap idle e))
  where
    go : (s : List ℕ) → idle (steps (more []) s) ≡ true → rest s ≡ []
    go = along (λ s. idle (steps (more []) s) ≡ true → rest s ≡ []) stop (λ s p f e. rest_step s p ∙ f (rw (steps_first s p) at e))
      where
        stop : (s : List ℕ) → first s ≡ 0 → idle (steps (more []) s) ≡ true → rest s ≡ []
        stop [] z e = rest_stop [] z
        stop (b ∷ s) z e = absurd (omega (arith, idle_follows (after b) s e))

pub valid_steps : (s : List ℕ) → Valid s → steps (more []) s ≡ more []
valid_steps s v = go s (valid_rest s v)
  where
    go : (s : List ℕ) → rest s ≡ [] → steps (more []) s ≡ more []
    go = along (λ s. rest s ≡ [] → steps (more []) s ≡ more []) (λ s z e. ap (steps (more [])) (sym (rest_stop s z) ∙ e)) (λ s p f e. steps_first s p ∙ f (sym (rest_step s p) ∙ e))
