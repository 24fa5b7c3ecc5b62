-- What is found of listed files, one after the other.
use Rattle.std.proofs.Common.{◌≡◌, ℕ, ◌+◌, ◌<◌, List, [], ◌∷◌, ◌++◌, length, map, get_or, take, drop, refl, sym, ap, subst, ◌∙◌}
use Rattle.std.specs.Prelude.{Result, Ok, Err}
use Rattle.std.proofs.lemmas.List.{map-append, drop_more, take_more, take-append-drop}
use Rattle.lt_rec.specs.declared.listed.Listed.{Listed}
use Rattle.lt_schema.specs.Versions.{SchemaVersions}
use Rattle.lt_io.specs.Directory.{Contents, file_at}
use Rattle.lt_trace.specs.Elements.{Noted}
use Rattle.lt_loading.specs.Found.{found_in, all_found, behind, Refuses}
use Rattle.lt_loading.specs.declared.refusal.LoadRefusal.{LoadRefusal}
use Rattle.lt_loading.specs.declared.refusal.LoadRefusal.TheVariants.{Missing, BadTablet, Clash, Fault, NoMemory}

abbrev found_of : SchemaVersions → Contents → Listed → Result Noted LoadRefusal
found_of versions files listed = found_in versions listed (file_at files listed.file)

abbrev pub made : List Noted → Result (List Noted) LoadRefusal
made notes = Ok notes

abbrev failed : LoadRefusal → Result (List Noted) LoadRefusal
failed why = Err why

pub mapped_more : {A B : Type 0} (f : A → B) (xs ys : List A) (x : A) → ys ≡ xs ++ x ∷ [] → map f ys ≡ map f xs ++ f x ∷ []
mapped_more f xs ys x e = ap (map f) e ∙ map-append f xs (x ∷ [])

-- parts of what is found behind one
both_ok : (one : Result Noted LoadRefusal) (others : Result (List Noted) LoadRefusal) (notes : List Noted) → behind one others ≡ made notes → (note : Noted) × (rest : List Noted) × (one ≡ Ok note) × (others ≡ Ok rest) × (note ∷ rest ≡ notes)
both_ok (Ok note) (Ok rest) notes e = (note, rest, refl, refl, cc)
both_ok (Ok note) (Err why) notes e = absurd (cc)
both_ok (Err why) others notes e = absurd (cc)

pub found_more : (versions : SchemaVersions) (files : Contents) (xs : List Listed) (notes : List Noted) (x : Listed) (note : Noted) → all_found versions files xs ≡ Ok notes → found_of versions files x ≡ Ok note
    → all_found versions files (xs ++ x ∷ []) ≡ Ok (notes ++ note ∷ [])
found_more versions files [] notes x note e f =
    let none : notes ≡ [] = cc in
    ap (λ (r : Result Noted LoadRefusal). behind r (Ok [])) f ∙ ap (λ (ns : List Noted). made (ns ++ note ∷ [])) (sym none)
found_more versions files (y ∷ xs) notes x note e f =
    let p = both_ok (found_of versions files y) (all_found versions files xs) notes e in
    let more = found_more versions files xs p.1 x note p.3 f in
    ap (λ (r : Result Noted LoadRefusal). behind r (all_found versions files (xs ++ x ∷ []))) p.2 ∙ ap (behind (Ok p.0)) more ∙ ap (λ (ns : List Noted). made (ns ++ note ∷ [])) p.4

stops : (versions : SchemaVersions) (files : Contents) (xs : List Listed) (notes : List Noted) (x : Listed) (rest : List Listed) (why : LoadRefusal) → all_found versions files xs ≡ Ok notes → found_of versions files x ≡ Err why
    → all_found versions files (xs ++ x ∷ rest) ≡ Err why
stops versions files [] notes x rest why e f = ap (λ (r : Result Noted LoadRefusal). behind r (all_found versions files rest)) f
stops versions files (y ∷ xs) notes x rest why e f =
    let p = both_ok (found_of versions files y) (all_found versions files xs) notes e in
    ap (λ (r : Result Noted LoadRefusal). behind r (all_found versions files (xs ++ x ∷ rest))) p.2 ∙ ap (behind (Ok p.0)) (stops versions files xs p.1 x rest why p.3 f)

refused : (versions : SchemaVersions) (files : Contents) (xs : List Listed) (notes : List Noted) (x : Listed) (rest : List Listed) (why : LoadRefusal) → all_found versions files xs ≡ Ok notes → Refuses why (found_of versions files x)
    → Refuses why (all_found versions files (xs ++ x ∷ rest))
refused versions files xs notes x rest (Missing file) e f = stops versions files xs notes x rest (Missing file) e f
refused versions files xs notes x rest (BadTablet file at) e f = stops versions files xs notes x rest (BadTablet file at) e f
refused versions files xs notes x rest (Clash first second) e f = f
refused versions files xs notes x rest Fault e f = tt
refused versions files xs notes x rest NoMemory e f = tt

pub taken_more : (xs : List Listed) (i : ℕ) (x : Listed) → i < length xs → x ≡ get_or xs i x → take (i + 1) xs ≡ take i xs ++ x ∷ []
taken_more xs i x lt is = take_more xs i x lt ∙ ap (λ (y : Listed). take i xs ++ y ∷ []) (sym is)

-- the first refusal is that of all
pub found_stops : (versions : SchemaVersions) (files : Contents) (xs : List Listed) (i : ℕ) (notes : List Noted) (x : Listed) (why : LoadRefusal) → i < length xs → x ≡ get_or xs i x → all_found versions files (take i xs) ≡ Ok notes
    → Refuses why (found_of versions files x) → Refuses why (all_found versions files xs)
found_stops versions files xs i notes x why lt is e f =
    let cut : drop i xs ≡ x ∷ drop (i + 1) xs = drop_more xs i x lt ∙ ap (λ (y : Listed). y ∷ drop (i + 1) xs) (sym is) in
    let whole : take i xs ++ x ∷ drop (i + 1) xs ≡ xs = ap (λ (ys : List Listed). take i xs ++ ys) (sym cut) ∙ take-append-drop i xs in
    subst (λ (ys : List Listed). Refuses why (all_found versions files ys)) whole (refused versions files (take i xs) notes x (drop (i + 1) xs) why e f)
