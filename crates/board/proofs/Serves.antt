-- A meaning decides what calls answer and what they leave.
use Rattle.std.proofs.Common.{◌≡◌, ℕ, ◌+◌, ◌<◌, ◌≤◌, List, [], ◌∷◌, ◌++◌, length, get_or, take, Option, sym, refl, ap, ◌∙◌, subst}
use Rattle.std.proofs.lemmas.List.{take_all, take_more}
use Rattle.grammar.specs.declared.refusals.Refusal.{Refusal}
use Rattle.board.specs.declared.calls.Call.{Call}
use Rattle.board.specs.declared.calls.Call.TheVariants.{AskSize, Widen, Put, Locate, First}
use Rattle.board.specs.declared.calls.Answer.{Answer}
use Rattle.board.specs.declared.calls.Answer.TheVariants.{Counts, Settled, Place, Label}
use Rattle.board.specs.Meaning.{Meaning, place_at, hits}
use Rattle.board.specs.Answering.{Settles, Firsts}
use Rattle.board.specs.Serving.{Tells, Serves, Runs}
use Rattle.board.proofs.Least.{least_unique}

-- where one content alone is right, the answer is decided
tells_alike : {X : Type 0} (form : X → Answer) (Right Right' : X → Type 0) (a a' : Answer) → ((x x' : X) → Right x → Right' x' → x ≡ x') → Tells form Right a → Tells form Right' a' → a ≡ a'
tells_alike form Right Right' a a' one t t' = t.1.0 ∙ (ap form (one t.0 t'.0 t.1.1 t'.1.1) ∙ sym t'.1.0)

settles_alike : (refusal : Option Refusal) (m changed m₁ m₂ : Meaning) (a a' : Answer) → Tells Settled (λ told. Settles refusal m changed told m₁) a → Tells Settled (λ told. Settles refusal m changed told m₂) a' → (a ≡ a') × (m₁ ≡ m₂)
settles_alike refusal m changed m₁ m₂ a a' t t' = (
  tells_alike Settled (λ told. Settles refusal m changed told m₁) (λ told. Settles refusal m changed told m₂) a a' (λ x x' s s'. s.answer_is ∙ sym s'.answer_is) t t',
  t.1.1.after_is ∙ sym t'.1.1.after_is,
)

pub serves_alike : (m : Meaning) (call : Call) (a a' : Answer) (m₁ m₂ : Meaning) → Serves m call a m₁ → Serves m call a' m₂ → (a ≡ a') × (m₁ ≡ m₂)
serves_alike m AskSize a a' m₁ m₂ s s' = (s.0.1.0 ∙ (ap Counts (s.0.1.1 ∙ sym s'.0.1.1) ∙ sym s'.0.1.0), s.1 ∙ sym s'.1)
serves_alike m (Widen row column) a a' m₁ m₂ s s' = settles_alike _ m _ m₁ m₂ a a' s s'
serves_alike m (Put point) a a' m₁ m₂ s s' = settles_alike _ m _ m₁ m₂ a a' s s'
serves_alike m (Locate label) a a' m₁ m₂ s s' = (s.0.1.0 ∙ (ap Place (s.0.1.1 ∙ sym s'.0.1.1) ∙ sym s'.0.1.0), s.1 ∙ sym s'.1)
serves_alike m (First within floor) a a' m₁ m₂ s s' =
    (tells_alike Label (Firsts m within floor) (Firsts m within floor) a a' (least_unique (hits within floor.0 (place_at m))) s.0 s'.0, s.1 ∙ sym s'.1)

-- the same of two boards that mean the same
pub boards_alike : (m m' : Meaning) (call : Call) (a a' : Answer) (m₁ m₂ : Meaning) → Serves m call a m₁ → Serves m' call a' m₂ → m ≡ m' → (a ≡ a') × (m₁ ≡ m₂)
boards_alike m m' call a a' m₁ m₂ s s' same =
    let P : Meaning → Type 0 = λ k. Serves k call a' m₂ in
    serves_alike m call a a' m₁ m₂ s (subst P (sym same) s')

pub runs_alike : (calls : List Call) (xs ys : List Answer) (m m' m₁ m₂ : Meaning) → Runs m calls xs m₁ → Runs m' calls ys m₂ → m ≡ m' → (xs ≡ ys) × (m₁ ≡ m₂)
runs_alike [] [] [] m m' m₁ m₂ r r' same = (refl, r ∙ (same ∙ sym r'))
runs_alike [] [] (a ∷ xs) m m' m₁ m₂ r r' same = absurd r'
runs_alike [] (a ∷ xs) ys m m' m₁ m₂ r r' same = absurd r
runs_alike (call ∷ calls) [] ys m m' m₁ m₂ r r' same = absurd r
runs_alike (call ∷ calls) (a ∷ xs) [] m m' m₁ m₂ r r' same = absurd r'
runs_alike (call ∷ calls) (a ∷ xs) (a' ∷ ys) m m' m₁ m₂ r r' same =
    let step : (a ≡ a') × (r.0 ≡ r'.0) = boards_alike m m' call a a' r.0 r'.0 r.1.0 r'.1.0 same in
    let rest : (xs ≡ ys) × (m₁ ≡ m₂) = runs_alike calls xs ys r.0 r'.0 m₁ m₂ r.1.1 r'.1.1 step.1 in
    let heads = step.0 in
    let tails = rest.0 in
    let both : a ∷ xs ≡ a' ∷ ys = cc in
    (both, rest.1)

-- one call more
run_on : (calls : List Call) (xs : List Answer) (call : Call) (a : Answer) (m m₁ m₂ : Meaning) → Runs m calls xs m₁ → Serves m₁ call a m₂ → Runs m (calls ++ call ∷ []) (xs ++ a ∷ []) m₂
run_on [] [] call a m m₁ m₂ r s = let P : Meaning → Type 0 = λ k. Serves k call a m₂ in (m₂, (subst P r s, refl))
run_on [] (b ∷ xs) call a m m₁ m₂ r s = absurd r
run_on (c ∷ calls) [] call a m m₁ m₂ r s = absurd r
run_on (c ∷ calls) (b ∷ xs) call a m m₁ m₂ r s = (r.0, (r.1.0, run_on calls xs call a r.0 m₁ m₂ r.1.1 s))

pub run_more : (calls : List Call) (xs ys : List Answer) (i : ℕ) (call d : Call) (a : Answer) (m m₁ m₂ : Meaning) → i < length calls → call ≡ get_or calls i d → ys ≡ xs ++ a ∷ [] → Runs m (take i calls) xs m₁ → Serves m₁ call a m₂ → Runs m (take (i + 1) calls) ys m₂
run_more calls xs ys i call d a m m₁ m₂ h is more r s =
    let all : take (i + 1) calls ≡ take i calls ++ call ∷ [] = take_more calls i d h ∙ ap (λ (c : Call). take i calls ++ c ∷ []) (sym is) in
    let P : List Call → Type 0 = λ cs. Runs m cs ys m₂ in
    let Q : List Answer → Type 0 = λ zs. Runs m (take i calls ++ call ∷ []) zs m₂ in
    subst P (sym all) (subst Q (sym more) (run_on (take i calls) xs call a m m₁ m₂ r s))

-- all calls are made
pub run_all : (calls : List Call) (xs : List Answer) (i : ℕ) (m m₁ : Meaning) → length calls ≤ i → Runs m (take i calls) xs m₁ → Runs m calls xs m₁
run_all calls xs i m m₁ h r = let P : List Call → Type 0 = λ cs. Runs m cs xs m₁ in subst P (take_all i calls h) r
