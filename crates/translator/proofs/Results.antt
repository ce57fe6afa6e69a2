-- Results that are handed on.
use Rattle.std.proofs.Common.{◌≡◌, Ok, Err, Result, IsErrAnd, MatchResult, sym, subst}

-- what a `?` hands up
pub handed_up : {T E : Type 0} (P : T → Type 0) (Q : E → Type 0) (r : Result T E) {e : E} → IsErrAnd r (λ y. y ≡ e) → Q e → MatchResult r P Q
handed_up P Q (Ok x) h q = absurd h
handed_up P Q (Err y) h q = subst Q (sym h) q

-- what `map_err` makes of a result, where F is what its closure gives
pub mapped : {A B C : Type 0} (P P' : A → Type 0) (Q : B → Type 0) (Q' : C → Type 0) (r : Result A B) (s : Result A C) (F : B → C → Type 0)
    → MatchResult r P Q → MatchResult r (λ x. s ≡ Ok x) (λ e. IsErrAnd s (F e)) → ((x : A) → P x → P' x) → ((e : B) (y : C) → Q e → F e y → Q' y) → MatchResult s P' Q'
mapped P P' Q Q' (Ok x) s F h m p q = subst (λ z. MatchResult z P' Q') (sym m) (p x h)
mapped P P' Q Q' (Err e) (Ok y) F h m p q = absurd m
mapped P P' Q Q' (Err e) (Err y) F h m p q = q e y h m
