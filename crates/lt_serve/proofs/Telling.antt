-- Lines that belong to nobody make no client; the others are the one client's.
use Rattle.std.proofs.Common.{◌≡◌, ℕ, cond, List, [], ◌∷◌, ◌++◌, map, refl, sym, ◌∙◌, ap, Option, Some, None}
use Rattle.std.specs.Prelude.{filter}
use Rattle.std.specs.List.{AllByRecursion}
use Rattle.std.proofs.lemmas.List.{append-nil}
use Rattle.lt_command.specs.declared.command.Line.{Line}
use Rattle.lt_command.specs.declared.command.Line.TheVariants.{Skip, Bad, Command as CommandLine}
use Rattle.lt_model.specs.Session.{Client, name_of, belongs_to, new_name, names_from, clients_of}
use Rattle.lt_model.proofs.Clients.{AllOf, clients_of-one}
use Rattle.lt_serve.specs.Session.{first_name, client_of, MayAnswer}
use Rattle.lt_serve.specs.Growing.{owned}

pub owned-more : (lines : List Line) (line : Line) → owned (lines ++ line ∷ []) ≡ owned lines ++ owned (line ∷ [])
owned-more [] line = refl
owned-more (Skip ∷ lines) line = owned-more lines line
owned-more (Bad client at ∷ lines) line = ap (λ (rest : List Line). Bad client at ∷ rest) (owned-more lines line)
owned-more (CommandLine client moment command ∷ lines) line = ap (λ (rest : List Line). CommandLine client moment command ∷ rest) (owned-more lines line)

first_name-assoc : (a b c : Option (List ℕ)) → first_name a (first_name b c) ≡ first_name (first_name a b) c
first_name-assoc None b c = refl
first_name-assoc (Some name) b c = refl

first_name-none : (a : Option (List ℕ)) → first_name a None ≡ a
first_name-none None = refl
first_name-none (Some name) = refl

pub client_of-more : (lines : List Line) (line : Line) → client_of (lines ++ line ∷ []) ≡ first_name (client_of lines) (name_of line)
client_of-more [] line = first_name-none (name_of line)
client_of-more (first ∷ lines) line = ap (first_name (name_of first)) (client_of-more lines line) ∙ first_name-assoc (name_of first) (client_of lines) (name_of line)

client_of-owned : (lines : List Line) → client_of (owned lines) ≡ client_of lines
client_of-owned [] = refl
client_of-owned (Skip ∷ lines) = client_of-owned lines
client_of-owned (Bad client at ∷ lines) = refl
client_of-owned (CommandLine client moment command ∷ lines) = refl

-- what may be answered before there is a client may be answered whoever it is
MayAnswer-later : (line : Line) (client : Option (List ℕ)) → MayAnswer None line → MayAnswer client line
MayAnswer-later Skip client may = tt
MayAnswer-later (Bad name at) client may = absurd (cc)
MayAnswer-later (CommandLine name moment command) client may = absurd (cc)

all_later : (lines : List Line) (client : Option (List ℕ)) → AllByRecursion (MayAnswer None) lines → AllByRecursion (MayAnswer client) lines
all_later [] client all = tt
all_later (line ∷ lines) client all = (MayAnswer-later line client all.0, all_later lines client all.1)

pub built_later : (client other : Option (List ℕ)) (lines : List Line) → AllByRecursion (MayAnswer client) lines → AllByRecursion (MayAnswer (first_name client other)) lines
built_later None other lines all = all_later lines other all
built_later (Some name) other lines all = all

pub built_more : (client : Option (List ℕ)) (lines : List Line) (line : Line) → AllByRecursion (MayAnswer client) lines → MayAnswer client line → AllByRecursion (MayAnswer client) (lines ++ line ∷ [])
built_more client [] line all may = (may, tt)
built_more client (first ∷ lines) line all may = (all.0, built_more client lines line all.1 may)

-- before there is a client, all lines are nobody's
pub owned_by_none : (lines : List Line) → AllByRecursion (MayAnswer None) lines → owned lines ≡ []
owned_by_none [] all = refl
owned_by_none (Skip ∷ lines) all = owned_by_none lines all.1
owned_by_none (Bad name at ∷ lines) all = absurd (let none : None ≡ Some name = all.0 in cc)
owned_by_none (CommandLine name moment command ∷ lines) all = absurd (let none : None ≡ Some name = all.0.0 in cc)

owned_by_one : (name : List ℕ) (lines : List Line) → AllByRecursion (MayAnswer (Some name)) lines → AllOf name (owned lines)
owned_by_one name [] all = tt
owned_by_one name (Skip ∷ lines) all = owned_by_one name lines all.1
owned_by_one name (Bad client at ∷ lines) all = (sym all.0, owned_by_one name lines all.1)
owned_by_one name (CommandLine client moment command ∷ lines) all = (sym all.0.0, owned_by_one name lines all.1)

names_from-owned : (known : List (List ℕ)) (lines : List Line) → names_from known (owned lines) ≡ names_from known lines
names_from-owned known [] = refl
names_from-owned known (Skip ∷ lines) = names_from-owned known lines ∙ ap (λ (names : List (List ℕ)). names_from names lines) (sym (append-nil known))
names_from-owned known (Bad client at ∷ lines) = names_from-owned (known ++ new_name known (Some client)) lines
names_from-owned known (CommandLine client moment command ∷ lines) = names_from-owned (known ++ new_name known (Some client)) lines

own-owned : (name : List ℕ) (lines : List Line) → filter (belongs_to name) (owned lines) ≡ filter (belongs_to name) lines
own-owned name [] = refl
own-owned name (Skip ∷ lines) = own-owned name lines
own-owned name (Bad client at ∷ lines) = ap (λ (rest : List Line). cond (belongs_to name (Bad client at)) (Bad client at ∷ rest) rest) (own-owned name lines)
own-owned name (CommandLine client moment command ∷ lines) =
    ap (λ (rest : List Line). cond (belongs_to name (CommandLine client moment command)) (CommandLine client moment command ∷ rest) rest) (own-owned name lines)

clients_of-owned : (lines : List Line) → clients_of (owned lines) ≡ clients_of lines
clients_of-owned lines =
    let the_client : List ℕ → List Line → Client = λ name own. record { name = name; lines = own } in
    λ i. map (λ (name : List ℕ). the_client name (own-owned name lines i)) (names_from-owned [] lines i)

pub clients_of-none : (lines : List Line) → AllByRecursion (MayAnswer None) lines → clients_of lines ≡ []
clients_of-none lines all = sym (clients_of-owned lines) ∙ ap clients_of (owned_by_none lines all)

clients_of-owned_by_one : (name : List ℕ) (own : List Line) → client_of own ≡ Some name → AllOf name own → clients_of own ≡ record { name = name; lines = own } ∷ []
clients_of-owned_by_one name [] is all = absurd (cc)
clients_of-owned_by_one name (line ∷ lines) is all = clients_of-one name line lines all

-- all lines that belong to anybody are the one client's
pub clients_of-ours : (name : List ℕ) (lines : List Line) → client_of lines ≡ Some name → AllByRecursion (MayAnswer (Some name)) lines → clients_of lines ≡ record { name = name; lines = owned lines } ∷ []
clients_of-ours name lines is all = sym (clients_of-owned lines) ∙ clients_of-owned_by_one name (owned lines) (client_of-owned lines ∙ is) (owned_by_one name lines all)

-- the client of the lines before is that of all, where they have one
pub client_of-append : (lines others : List Line) → client_of (lines ++ others) ≡ first_name (client_of lines) (client_of others)
client_of-append [] others = refl
client_of-append (line ∷ lines) others = ap (first_name (name_of line)) (client_of-append lines others) ∙ first_name-assoc (name_of line) (client_of lines) (client_of others)

-- a line that may not be answered behind those before it may not be whatever comes after it
pub not_later : (client after : Option (List ℕ)) (line : Line) → (MayAnswer (first_name client (name_of line)) line → ⊥) → MayAnswer (first_name client (first_name (name_of line) after)) line → ⊥
not_later client after Skip may_not may = may_not tt
not_later None after (Bad name at) may_not may = may_not may
not_later (Some known) after (Bad name at) may_not may = may_not may
not_later None after (CommandLine name moment command) may_not may = may_not may
not_later (Some known) after (CommandLine name moment command) may_not may = may_not may
