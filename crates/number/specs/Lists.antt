-- What holds of every element of a list, and what occurs in one. Assumes nothing.
use Rattle.std.specs.Prelude.{◌≡◌, ◌⊎◌, List, [], ◌∷◌}

abbrev pub Every : {X : Type 0} → (X → Type 0) → List X → Type 0
Every Holds [] = Unit
Every Holds (x ∷ xs) = Holds x × Every Holds xs

abbrev pub Occurs : {X : Type 0} → X → List X → Type 0
Occurs x [] = ⊥
Occurs x (y ∷ ys) = (x ≡ y) ⊎ Occurs x ys
