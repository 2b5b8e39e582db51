-- Fields that don't make a line of a menu file, and one more line.
use Rattle.std.proofs.Common.{◌≡◌, ℕ, ◌<◌, eqb, List, [], ◌∷◌, length, None, refl, ap, ◌∙◌, arith}
use Rattle.gopher_bytes.proofs.Splits.{some_part}
use Rattle.gopher_item.specs.Menu.{fields_of}
use Rattle.gopher_tree.specs.MenuFile.{line_of_fields}

untyped : (field : List ℕ) (more : List (List ℕ)) → line_of_fields ([] ∷ field ∷ more) ≡ None
untyped field [] = refl
untyped field (b ∷ []) = refl
untyped field (b ∷ c ∷ []) = refl
untyped field (b ∷ c ∷ d ∷ more) = refl

-- several fields whose first is empty
pub line_of_fields-untyped : (first rest : List ℕ) → length first < 1 → line_of_fields (first ∷ fields_of rest) ≡ None
line_of_fields-untyped [] rest short = let some = some_part (λ b. eqb b 9) rest in ap (λ fields. line_of_fields ([] ∷ fields)) some.2 ∙ untyped some.0 some.1
line_of_fields-untyped (b ∷ first) rest short = absurd (omega arith)

many : (first selector host port more : List ℕ) (rest : List (List ℕ)) → line_of_fields (first ∷ selector ∷ host ∷ port ∷ more ∷ rest) ≡ None
many [] selector host port more rest = refl
many (b ∷ first) selector host port more rest = refl

-- more than four fields
pub line_of_fields-many : (first selector host port rest : List ℕ) → line_of_fields (first ∷ selector ∷ host ∷ port ∷ fields_of rest) ≡ None
line_of_fields-many first selector host port rest = let some = some_part (λ b. eqb b 9) rest in ap (λ fields. line_of_fields (first ∷ selector ∷ host ∷ port ∷ fields)) some.2 ∙ many first selector host port some.0 some.1
