-- The sections of one kind, with one more section.
use Rattle.std.proofs.Common.{◌≡◌, ℕ, ◌+◌, ◌<◌, Bool, true, false, cond, List, [], ◌∷◌, ◌++◌, length, take, get_or, Option, Some, None, append-nil, refl, sym, ◌∙◌, ap}
use Rattle.std.specs.List.{filter_map}
use Rattle.std.proofs.lemmas.List.{take_more}
use Rattle.std.proofs.lemmas.List.Elements.{filter_map-append}
use Rattle.route_table.specs.File.{Section}
use Rattle.route_table.specs.Said.{sections_of}
use Rattle.route_table.specs.Values.{is_kind}
use Rattle.route_table.specs.declared.attributes.SectionKind.{SectionKind}

module _ {T : Type 0} (wanted : SectionKind) (meaning : Section → T) (xs : List Section) (i : ℕ) (x : Section) (below : i < length xs) (item : x ≡ get_or xs i x) where
  added : (b : Bool) → is_kind x.kind wanted ≡ b → sections_of wanted meaning (take (i + 1) xs) ≡ sections_of wanted meaning (take i xs) ++ filter_map (λ (s : Section). cond b (Some (meaning s)) None) (x ∷ [])
  added b is =
      let test : Section → Option T = λ s. cond (is_kind s.kind wanted) (Some (meaning s)) None in
      ap (filter_map test) (take_more xs i x below ∙ ap (λ y. take i xs ++ y ∷ []) (sym item)) ∙ filter_map-append test (take i xs) (x ∷ []) ∙ rw is refl

  pub one_section : (old new : List T) → is_kind x.kind wanted ≡ true → old ≡ sections_of wanted meaning (take i xs) → new ≡ old ++ meaning x ∷ [] → new ≡ sections_of wanted meaning (take (i + 1) xs)
  one_section old new is before put = put ∙ ap (λ ys. ys ++ meaning x ∷ []) before ∙ sym (added true is)

  pub other_section : (old : List T) → is_kind x.kind wanted ≡ false → old ≡ sections_of wanted meaning (take i xs) → old ≡ sections_of wanted meaning (take (i + 1) xs)
  other_section old is before = before ∙ sym (append-nil (sections_of wanted meaning (take i xs))) ∙ sym (added false is)
