-- Elements of lists by their place.
use Rattle.std.proofs.Common.{◌≡◌, ℕ, ◌+◌, ◌<◌, List, [], ◌∷◌, ◌++◌, length, map, take, get_or, sym, ap, ◌∙◌, arith}
use Rattle.std.proofs.lemmas.List.{take_more, get_or-map, length-map, map-append}

-- what the next element of a list gives, at the end of what those before it give
pub map-next : {X Y : Type 0} (f : X → Y) (xs : List X) (i : ℕ) (x : X) → i < length xs → x ≡ get_or xs i x → map f (take (i + 1) xs) ≡ map f (take i xs) ++ f x ∷ []
map-next f xs i x within is =
    ap (map f) (take_more xs i x within) ∙ map-append f (take i xs) (get_or xs i x ∷ []) ∙ ap (λ y. map f (take i xs) ++ f y ∷ []) (sym is)

-- an element of a list that is made of another by its elements
pub made-at : {X Y Z : Type 0} (f : Y → Z) (g : X → Y) (xs : List X) (zs : List Z) (i : ℕ) (x : X) (d : Z) → i < length xs → x ≡ get_or xs i x → zs ≡ map f (map g xs) → get_or zs i d ≡ f (g x)
made-at f g xs zs i x d within is made =
    ap (λ l. get_or l i d) made ∙ get_or-map f (map g xs) i (g x) d (omega (arith, length-map xs g)) ∙ ap f (get_or-map g xs i x (g x) within ∙ ap g (sym is))
