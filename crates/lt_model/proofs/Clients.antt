-- The clients of lines that all belong to one.
use Rattle.std.proofs.Common.{◌≡◌, Bool, true, false, cond, ℕ, List, [], ◌∷◌, ◌++◌, map, Option, refl, sym, ap, subst, ◌∙◌}
use Rattle.std.specs.Prelude.{Some, filter, nat_eq, ◌||◌, if◌then◌else◌}
use Rattle.std.specs.List.{AllByRecursion}
use Rattle.std.specs.Cmp.Lexicographic.{pointwise}
use Rattle.std.proofs.lemmas.Cmp.{nat_list_eq_equiv}
use Rattle.lt_command.specs.declared.command.Line.{Line}
use Rattle.lt_command.specs.declared.command.Line.TheVariants.{Skip, Bad, Command as CommandLine}
use Rattle.lt_model.specs.Session.{Client, name_of, belongs_to, new_name, names_from, clients_of}

-- each line is this client's
abbrev pub AllOf : List ℕ → List Line → Type 0
AllOf name lines = AllByRecursion (λ line. name_of line ≡ Some name) lines

same_name : (name : List ℕ) → pointwise nat_eq name name ≡ true
same_name name = nat_list_eq_equiv.refl name

belongs_to-named : (name : List ℕ) (line : Line) → name_of line ≡ Some name → belongs_to name line ≡ true
belongs_to-named name Skip is = cc
belongs_to-named name (Bad client at) is = let same : client ≡ name = cc in subst (λ (other : List ℕ). pointwise nat_eq other name ≡ true) (sym same) (same_name name)
belongs_to-named name (CommandLine client moment command) is = let same : client ≡ name = cc in subst (λ (other : List ℕ). pointwise nat_eq other name ≡ true) (sym same) (same_name name)

own_lines : (name : List ℕ) (lines : List Line) → AllOf name lines → filter (belongs_to name) lines ≡ lines
own_lines name [] all = refl
own_lines name (line ∷ lines) all =
    ap (λ (b : Bool). cond b (line ∷ filter (belongs_to name) lines) (filter (belongs_to name) lines)) (belongs_to-named name line all.0)
    ∙ ap (λ (rest : List Line). line ∷ rest) (own_lines name lines all.1)

known_name : (name : List ℕ) (other : Option (List ℕ)) → other ≡ Some name → new_name (name ∷ []) other ≡ []
known_name name other is = ap (new_name (name ∷ [])) is ∙ ap (λ (b : Bool). if (b || false) then [] else (name ∷ [])) (same_name name)

names_of_one : (name : List ℕ) (lines : List Line) → AllOf name lines → names_from (name ∷ []) lines ≡ name ∷ []
names_of_one name [] all = refl
names_of_one name (line ∷ lines) all =
    ap (λ (more : List (List ℕ)). names_from ((name ∷ []) ++ more) lines) (known_name name (name_of line) all.0) ∙ names_of_one name lines all.1

-- lines of one client have that client alone
pub clients_of-one : (name : List ℕ) (line : Line) (lines : List Line) → AllOf name (line ∷ lines)
    → clients_of (line ∷ lines) ≡ record { name = name; lines = line ∷ lines } ∷ []
clients_of-one name line lines all =
    let names : names_from [] (line ∷ lines) ≡ name ∷ [] = ap (λ (other : Option (List ℕ)). names_from ([] ++ new_name [] other) lines) all.0 ∙ names_of_one name lines all.1 in
    let the_client : List ℕ → Client = λ own. record { name = own; lines = filter (belongs_to own) (line ∷ lines) } in
    ap (map the_client) names ∙ ap (λ (own : List Line). record { name = name; lines = own } ∷ []) (own_lines name (line ∷ lines) all)
