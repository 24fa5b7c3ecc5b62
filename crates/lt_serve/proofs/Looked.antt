-- How the lines of an input are looked through.
use Rattle.std.proofs.Common.{◌≡◌, ℕ, ◌+◌, ◌<◌, List, [], ◌∷◌, ◌++◌, length, take, map, refl, sym, ◌∙◌, ap, subst, Option, Some, None, append_assoc, length-append, arith}
use Rattle.std.specs.Prelude.{slice_get}
use Rattle.std.proofs.lemmas.List.{append-nil, take-append-le}
use Rattle.std.proofs.Math.Seq.{take-length}
use Rattle.lt_lang.specs.Lines.{cut_lines}
use Rattle.lt_lang.specs.Parsing.{line_at}
use Rattle.lt_command.specs.declared.command.Line.{Line}
use Rattle.lt_model.specs.Session.{name_of}
use Rattle.lt_serve.specs.Session.{lines_of, first_name, client_of, MayAnswer, AllMayAnswer, IsBuilt, HasOtherLine}
use Rattle.lt_serve.specs.Looking.{LookedThrough}
use Rattle.lt_serve.proofs.Telling.{client_of-more, client_of-append, not_later, built_later, built_more}

-- nothing is read yet
pub LookedThrough-begin : (input : List ℕ) → LookedThrough input input None 0
LookedThrough-begin input = record { lines = []; cut = refl; counted = refl; progress = omega arith; client_is = refl; built = tt }

-- what is left begins with this line
pub next_said : (input rest after : List ℕ) (lines : List Line) (bytes : List ℕ) (line : Line) → lines_of input ≡ lines ++ lines_of rest → cut_lines rest ≡ bytes ∷ cut_lines after → line ≡ line_at bytes
    → lines_of input ≡ lines ++ line ∷ lines_of after
next_said input rest after lines bytes line cut first is =
    cut ∙ ap (λ (others : List (List ℕ)). lines ++ map line_at others) first ∙ ap (λ (said : Line). lines ++ said ∷ lines_of after) (sym is)

-- and is the last one of those that were read
pub next_cut : (input rest after : List ℕ) (lines : List Line) (bytes : List ℕ) (line : Line) → lines_of input ≡ lines ++ lines_of rest → cut_lines rest ≡ bytes ∷ cut_lines after → line ≡ line_at bytes
    → lines_of input ≡ (lines ++ line ∷ []) ++ lines_of after
next_cut input rest after lines bytes line cut first is = next_said input rest after lines bytes line cut first is ∙ sym (append_assoc lines (line ∷ []) (lines_of after))

client_now : (input rest : List ℕ) (client new : Option (List ℕ)) (number : ℕ) (line : Line) (so_far : LookedThrough input rest client number) → new ≡ first_name client (name_of line)
    → new ≡ client_of (so_far.lines ++ line ∷ [])
client_now input rest client new number line so_far is =
    is ∙ ap (λ (known : Option (List ℕ)). first_name known (name_of line)) so_far.client_is ∙ sym (client_of-more so_far.lines line)

-- a line more is read, and it may be answered
pub LookedThrough-more : (input rest after : List ℕ) (client new : Option (List ℕ)) (number : ℕ) (bytes : List ℕ) (line : Line)
    → LookedThrough input rest client number → cut_lines rest ≡ bytes ∷ cut_lines after → length after < length rest → line ≡ line_at bytes
    → new ≡ first_name client (name_of line) → MayAnswer new line → LookedThrough input after new (number + 1)
LookedThrough-more input rest after client new number bytes line so_far cut shorter is whose may = record {
  lines = so_far.lines ++ line ∷ [];
  cut = next_cut input rest after so_far.lines bytes line so_far.cut cut is;
  counted = length-append so_far.lines (line ∷ []) ∙ ap (λ n. n + 1) so_far.counted;
  progress = omega (arith, so_far.progress);
  client_is = client_now input rest client new number line so_far whose;
  built = built_more new so_far.lines line
      (subst (λ (known : Option (List ℕ)). AllMayAnswer known so_far.lines) (sym whose) (built_later client (name_of line) so_far.lines so_far.built)) may;
}

there_at : (before : List Line) (line : Line) (after : List Line) → slice_get (before ++ line ∷ after) (length before) ≡ Some line
there_at [] line after = refl
there_at (first ∷ before) line after = there_at before line after

-- the line at the front of what is left may not be answered
pub HasOtherLine-found : (input rest after : List ℕ) (client new : Option (List ℕ)) (number : ℕ) (bytes : List ℕ) (line : Line)
    → LookedThrough input rest client number → cut_lines rest ≡ bytes ∷ cut_lines after → line ≡ line_at bytes
    → new ≡ first_name client (name_of line) → (MayAnswer new line → ⊥) → HasOtherLine input number
HasOtherLine-found input rest after client new number bytes line so_far cut is now may_not =
    let before = so_far.lines in
    let all : lines_of input ≡ before ++ line ∷ lines_of after = next_said input rest after before bytes line so_far.cut cut is in
    let whose : client_of (lines_of input) ≡ first_name (client_of before) (first_name (name_of line) (client_of (lines_of after))) = ap client_of all ∙ client_of-append before (line ∷ lines_of after) in
    let known : new ≡ first_name (client_of before) (name_of line) = now ∙ ap (λ (own : Option (List ℕ)). first_name own (name_of line)) so_far.client_is in
    let built : AllMayAnswer (client_of before) before = subst (λ (own : Option (List ℕ)). AllMayAnswer own before) so_far.client_is so_far.built in
    record {
      other = line;
      there = ap (λ (lines : List Line). slice_get lines number) all ∙ ap (slice_get (before ++ line ∷ lines_of after)) (sym so_far.counted) ∙ there_at before line (lines_of after);
      not_built = λ may. not_later (client_of before) (client_of (lines_of after)) line
          (λ early. may_not (subst (λ (own : Option (List ℕ)). MayAnswer own line) (sym known) early))
          (subst (λ (own : Option (List ℕ)). MayAnswer own line) whose may);
      before = subst (λ (own : Option (List ℕ)). AllMayAnswer own (take number (lines_of input))) (sym whose)
          (subst (λ (lines : List Line). AllMayAnswer (first_name (client_of before) (first_name (name_of line) (client_of (lines_of after)))) lines)
          (sym (ap (take number) all ∙ ap (λ (n : ℕ). take n (before ++ line ∷ lines_of after)) (sym so_far.counted) ∙ take-append-le (length before) before (line ∷ lines_of after) (omega arith) ∙ take-length before))
          (built_later (client_of before) (first_name (name_of line) (client_of (lines_of after))) before built));
    }

-- all is read
pub all_cut : (input rest : List ℕ) (lines : List Line) → lines_of input ≡ lines ++ lines_of rest → rest ≡ [] → lines_of input ≡ lines
all_cut input rest lines cut ended = cut ∙ ap (λ (left : List ℕ). lines ++ lines_of left) ended ∙ append-nil lines

pub IsBuilt-ended : (input rest : List ℕ) (client : Option (List ℕ)) (number : ℕ) → LookedThrough input rest client number → rest ≡ [] → IsBuilt input × (client ≡ client_of (lines_of input))
IsBuilt-ended input rest client number so_far ended =
    let all : lines_of input ≡ so_far.lines = all_cut input rest so_far.lines so_far.cut ended in
    let whose : client ≡ client_of (lines_of input) = so_far.client_is ∙ ap client_of (sym all) in (
      subst (λ (lines : List Line). AllMayAnswer (client_of (lines_of input)) lines) (sym all) (subst (λ (own : Option (List ℕ)). AllMayAnswer own so_far.lines) whose so_far.built),
      whose,
    )
