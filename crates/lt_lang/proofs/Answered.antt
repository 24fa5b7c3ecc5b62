-- Commands and lines that were read are so spelled.
use Rattle.std.proofs.Common.{◌≡◌, ℕ, ◌-◌, ◌^◌, Bool, true, false, List, [], ◌∷◌, ◌++◌, length, take, drop, refl, sym, ◌∙◌, ap, subst, arith, Option, Some, None, inl, inr}
use Rattle.std.proofs.lemmas.List.{append-nil, take-append-drop}
use Rattle.std.proofs.lemmas.Bool.{eqb-true}
use Rattle.std.specs.Prelude.{nat_eq, if◌then◌else◌, codes, Result, Ok, Err}
use Rattle.std.specs.List.{list_all, prefix_len}
use Rattle.lt_schema.specs.Names.{is_name}
use Rattle.lt_schema.specs.declared.kind.Kind.{Kind}
use Rattle.lt_schema.specs.declared.value.Value.{Value}
use Rattle.lt_schema.specs.declared.change.Change.{Change}
use Rattle.lt_schema.specs.declared.change.Change.TheVariants.{Append, Widen}
use Rattle.lt_command.specs.declared.command.Command.{Command}
use Rattle.lt_command.specs.declared.command.Command.TheVariants.{Insert, Scan, Latest, Flush, Upkeep, Alter, Tablets}
use Rattle.lt_command.specs.declared.command.Line.TheVariants as lines
use Rattle.lt_command.specs.declared.query.Edge.{Edge}
use Rattle.lt_command.specs.declared.query.Query.{Query}
use Rattle.lt_lang.specs.Tokens.{is_space, skipped}
use Rattle.lt_lang.specs.Literals.{AreLits}
use Rattle.lt_lang.specs.Sentences.{Next, Front, IsClient, IsEdge, IsSomeEdge, IsTimes, IsSomeTimes, IsDirection, IsLimit, IsSomeLimit, IsScan, IsDefault, IsAppend, IsChange, IsRest, command_word, AreTokens, IsSentence, IsSkipped, is_remark, kind_word}
use Rattle.lt_lang.specs.Parsing.{◌>>=◌, same, needed_count, maybe_count, maybe_moment, next_word, behind_next, after_word, literal_at, literals_at, edge_by, edge_after, edge_at, times_after, times_at, direction_after, direction_at, limit_after, limit_at, query_of, scan_at, default_by, default_at, needed_name, needed_kind, column_of, append_at, widen_at, change_after, change_at, stopped, said, command_by, command_at, last_command, request_at, client_line, line_by, line_at, client_of}
use Rattle.lt_lang.proofs.Pieces.{all_front}
use Rattle.lt_lang.proofs.WordForms.{IsStart, same-read, client_of-read, client_of-start}
use Rattle.lt_lang.proofs.Gaps.{front-append}
use Rattle.lt_lang.proofs.Understood.{TakesTokens, read_ok, ok_same, next_so, needed_count-read, maybe_count-read, maybe_moment-read, needed_name-read, needed_kind-read, after_word-read, literal_at-read, literals_at-read}

-- what holds of a first reader's find and the next one's holds of both
both_ok : (A B P : Type 0) (r : Result A ℕ) (f : A → Result B ℕ) (y : B) → (r >>= f) ≡ read_ok B y → ((x : A) → r ≡ read_ok A x → f x ≡ read_ok B y → P) → P
both_ok A B P (Ok x) f y e each = each x refl e
both_ok A B P (Err left) f y e each = cc

pub AreLits-length : (tokens : List (List ℕ)) (values : List Value) → AreLits tokens values → length tokens ≡ length values
AreLits-length [] [] are = refl
AreLits-length [] (value ∷ values) are = absurd are
AreLits-length (token ∷ tokens) [] are = absurd are
AreLits-length (token ∷ tokens) (value ∷ values) are = let h = AreLits-length tokens values are.1 in omega arith

abbrev pub edge_word : List ℕ → List ℕ → Bool → List ℕ
edge_word weak strict t = if t then strict else weak

edge_some : (weak strict : List ℕ) (t : Bool) (bytes rest : List ℕ) (tokens : List (List ℕ)) (values : List Value) (after : List ℕ) (p : Option Edge × List ℕ)
    → Next (edge_word weak strict t) bytes rest → Front tokens rest after → AreLits tokens values → edge_by t (values, after) ≡ read_ok (Option Edge × List ℕ) p
    → TakesTokens (Option Edge) (IsEdge weak strict) bytes p
edge_some weak strict t bytes rest tokens [] after p next front are e = cc
edge_some weak strict t bytes rest tokens (value ∷ values) after p next front are e =
    let edge : Edge = record { values = value ∷ values; strict = t } in
    let len = AreLits-length tokens (value ∷ values) are in
    let is : IsSomeEdge weak strict (edge_word weak strict t ∷ tokens) edge = record { literals = tokens; spelled = refl; values = are; some = omega arith } in
    let found : TakesTokens (Option Edge) (IsEdge weak strict) bytes (Some edge, after) = record { tokens = edge_word weak strict t ∷ tokens; front = (rest, next, front); is = is } in
    subst (TakesTokens (Option Edge) (IsEdge weak strict) bytes) (ok_same (Option Edge × List ℕ) (Some edge, after) p e) found

edge_then : (weak strict : List ℕ) (t : Bool) (bytes rest : List ℕ) (p : Option Edge × List ℕ) → Next (edge_word weak strict t) bytes rest
    → edge_by t (literals_at rest) ≡ read_ok (Option Edge × List ℕ) p → TakesTokens (Option Edge) (IsEdge weak strict) bytes p
edge_then weak strict t bytes rest p next e =
    let lits = literals_at-read rest in
    edge_some weak strict t bytes rest lits.tokens (literals_at rest).0 (literals_at rest).1 p next lits.front lits.is e

edge_cases : (weak strict bytes : List ℕ) (r s : Option (List ℕ)) (p : Option Edge × List ℕ) → IsStart weak → IsStart strict → after_word weak bytes ≡ r → after_word strict bytes ≡ s
    → edge_after r s bytes ≡ read_ok (Option Edge × List ℕ) p → TakesTokens (Option Edge) (IsEdge weak strict) bytes p
edge_cases weak strict bytes (Some rest) s p f g eq eq2 e = edge_then weak strict false bytes rest p (after_word-read weak bytes rest eq f) e
edge_cases weak strict bytes None (Some rest) p f g eq eq2 e = edge_then weak strict true bytes rest p (after_word-read strict bytes rest eq2 g) e
edge_cases weak strict bytes None None p f g eq eq2 e =
    let found : TakesTokens (Option Edge) (IsEdge weak strict) bytes (None, bytes) = record { tokens = []; front = refl; is = refl } in
    subst (TakesTokens (Option Edge) (IsEdge weak strict) bytes) (ok_same (Option Edge × List ℕ) (None, bytes) p e) found

pub edge_at-read : (weak strict bytes : List ℕ) (p : Option Edge × List ℕ) → IsStart weak → IsStart strict → edge_at weak strict bytes ≡ read_ok (Option Edge × List ℕ) p
    → TakesTokens (Option Edge) (IsEdge weak strict) bytes p
unfolding edge_at
edge_at-read weak strict bytes p f g e = edge_cases weak strict bytes (after_word weak bytes) (after_word strict bytes) p f g refl refl e

abbrev pub AreTimes : List (List ℕ) → ℕ × ℕ → Type 0
AreTimes tokens times = IsTimes tokens times.0 times.1

times_cases : (bytes : List ℕ) (r : Option (List ℕ)) (p : (ℕ × ℕ) × List ℕ) → after_word (codes "time") bytes ≡ r → times_after r bytes ≡ read_ok ((ℕ × ℕ) × List ℕ) p → TakesTokens (ℕ × ℕ) AreTimes bytes p
times_cases bytes None p eq e =
    let found : TakesTokens (ℕ × ℕ) AreTimes bytes ((0, 2 ^ 62 - 1), bytes) = record { tokens = []; front = refl; is = inl (refl, refl, refl) } in
    subst (TakesTokens (ℕ × ℕ) AreTimes bytes) (ok_same ((ℕ × ℕ) × List ℕ) ((0, 2 ^ 62 - 1), bytes) p e) found
times_cases bytes (Some rest) p eq e =
    let next = after_word-read (codes "time") bytes rest eq (record { some = omega arith; bare = refl }) in
    both_ok (ℕ × List ℕ) ((ℕ × ℕ) × List ℕ) (TakesTokens (ℕ × ℕ) AreTimes bytes p) (needed_count rest) _ p e (λ from f e2.
    both_ok (ℕ × List ℕ) ((ℕ × ℕ) × List ℕ) (TakesTokens (ℕ × ℕ) AreTimes bytes p) (needed_count from.1) _ p e2 (λ to g e3.
    let first = needed_count-read rest from f in
    let last = needed_count-read from.1 to g in
    let is : IsSomeTimes (codes "time" ∷ first.token ∷ last.token ∷ []) from.0 to.0 = record { first = first.token; last = last.token; spelled = refl; first_count = first.is; last_count = last.is } in
    let found : TakesTokens (ℕ × ℕ) AreTimes bytes ((from.0, to.0), to.1) = record {
      tokens = codes "time" ∷ first.token ∷ last.token ∷ [];
      front = (rest, next, (from.1, first.next, (to.1, last.next, refl)));
      is = inr is;
    } in
    subst (TakesTokens (ℕ × ℕ) AreTimes bytes) (ok_same ((ℕ × ℕ) × List ℕ) ((from.0, to.0), to.1) p e3) found))

pub times_at-read : (bytes : List ℕ) (p : (ℕ × ℕ) × List ℕ) → times_at bytes ≡ read_ok ((ℕ × ℕ) × List ℕ) p → TakesTokens (ℕ × ℕ) AreTimes bytes p
unfolding times_at
times_at-read bytes p e = times_cases bytes (after_word (codes "time") bytes) p refl e

direction_cases : (bytes : List ℕ) (r s : Option (List ℕ)) → after_word (codes "asc") bytes ≡ r → after_word (codes "desc") bytes ≡ s → TakesTokens Bool IsDirection bytes (direction_after r s bytes)
direction_cases bytes (Some rest) s eq eq2 = record {
  tokens = codes "asc" ∷ [];
  front = (rest, after_word-read (codes "asc") bytes rest eq (record { some = omega arith; bare = refl }), refl);
  is = inr (inl (refl, refl));
}
direction_cases bytes None (Some rest) eq eq2 = record {
  tokens = codes "desc" ∷ [];
  front = (rest, after_word-read (codes "desc") bytes rest eq2 (record { some = omega arith; bare = refl }), refl);
  is = inr (inr (refl, refl));
}
direction_cases bytes None None eq eq2 = record { tokens = []; front = refl; is = inl (refl, refl) }

pub direction_at-read : (bytes : List ℕ) → TakesTokens Bool IsDirection bytes (direction_at bytes)
unfolding direction_at
direction_at-read bytes = direction_cases bytes (after_word (codes "asc") bytes) (after_word (codes "desc") bytes) refl refl

limit_cases : (bytes : List ℕ) (r : Option (List ℕ)) (p : ℕ × List ℕ) → after_word (codes "limit") bytes ≡ r → limit_after r bytes ≡ read_ok (ℕ × List ℕ) p → TakesTokens ℕ IsLimit bytes p
limit_cases bytes None p eq e =
    let found : TakesTokens ℕ IsLimit bytes (1000, bytes) = record { tokens = []; front = refl; is = inl (refl, refl) } in
    subst (TakesTokens ℕ IsLimit bytes) (ok_same (ℕ × List ℕ) (1000, bytes) p e) found
limit_cases bytes (Some rest) p eq e =
    let count = needed_count-read rest p e in
    let is : IsSomeLimit (codes "limit" ∷ count.token ∷ []) p.0 = record { token = count.token; spelled = refl; count = count.is } in record {
      tokens = codes "limit" ∷ count.token ∷ [];
      front = (rest, after_word-read (codes "limit") bytes rest eq (record { some = omega arith; bare = refl }), (p.1, count.next, refl));
      is = inr is;
    }

limit_at-read : (bytes : List ℕ) (p : ℕ × List ℕ) → limit_at bytes ≡ read_ok (ℕ × List ℕ) p → TakesTokens ℕ IsLimit bytes p
unfolding limit_at
limit_at-read bytes p e = limit_cases bytes (after_word (codes "limit") bytes) p refl e

scan_at-read : (bytes : List ℕ) (p : Query × List ℕ) → scan_at bytes ≡ read_ok (Query × List ℕ) p → TakesTokens Query IsScan bytes p
unfolding scan_at
scan_at-read bytes p e =
    both_ok (Option Edge × List ℕ) (Query × List ℕ) (TakesTokens Query IsScan bytes p) (edge_at (codes "ge") (codes "gt") bytes) _ p e (λ lo f1 e1.
    both_ok (Option Edge × List ℕ) (Query × List ℕ) (TakesTokens Query IsScan bytes p) (edge_at (codes "le") (codes "lt") lo.1) _ p e1 (λ hi f2 e2.
    both_ok ((ℕ × ℕ) × List ℕ) (Query × List ℕ) (TakesTokens Query IsScan bytes p) (times_at hi.1) _ p e2 (λ times f3 e3.
    both_ok (ℕ × List ℕ) (Query × List ℕ) (TakesTokens Query IsScan bytes p) (limit_at (direction_at times.1).1) _ p e3 (λ limit f4 e4.
    let a = edge_at-read (codes "ge") (codes "gt") bytes lo (record { some = omega arith; bare = refl }) (record { some = omega arith; bare = refl }) f1 in
    let b = edge_at-read (codes "le") (codes "lt") lo.1 hi (record { some = omega arith; bare = refl }) (record { some = omega arith; bare = refl }) f2 in
    let c = times_at-read hi.1 times f3 in
    let d = direction_at-read times.1 in
    let m = limit_at-read (direction_at times.1).1 limit f4 in
    let query = query_of lo.0 hi.0 times.0 (direction_at times.1).0 limit.0 in
    let last = front-append d.tokens m.tokens times.1 (direction_at times.1).1 limit.1 d.front m.front in
    let third = front-append c.tokens (d.tokens ++ m.tokens) hi.1 times.1 limit.1 c.front last in
    let second = front-append b.tokens (c.tokens ++ (d.tokens ++ m.tokens)) lo.1 hi.1 limit.1 b.front third in
    let is : IsScan (a.tokens ++ (b.tokens ++ (c.tokens ++ (d.tokens ++ m.tokens)))) query = record {
      lo = a.tokens;
      hi = b.tokens;
      times = c.tokens;
      direction = d.tokens;
      limit = m.tokens;
      spelled = refl;
      lo_edge = a.is;
      hi_edge = b.is;
      all_times = c.is;
      down = d.is;
      most = m.is;
    } in
    let found : TakesTokens Query IsScan bytes (query, limit.1) = record {
      tokens = a.tokens ++ (b.tokens ++ (c.tokens ++ (d.tokens ++ m.tokens)));
      front = front-append a.tokens (b.tokens ++ (c.tokens ++ (d.tokens ++ m.tokens))) bytes lo.1 limit.1 a.front second;
      is = is;
    } in
    subst (TakesTokens Query IsScan bytes) (ok_same (Query × List ℕ) (query, limit.1) p e4) found))))

default_cases : (kind : Kind) (bytes : List ℕ) (r : Option (Value × List ℕ)) → literal_at bytes ≡ r → TakesTokens Value (IsDefault kind) bytes (default_by kind r bytes)
default_cases kind bytes None eq = record { tokens = []; front = refl; is = inl (refl, refl) }
default_cases kind bytes (Some p) eq =
    let t = literal_at-read bytes p eq in record { tokens = t.token ∷ []; front = (p.1, t.next, refl); is = inr (t.token, refl, t.is) }

default_at-read : (kind : Kind) (bytes : List ℕ) → TakesTokens Value (IsDefault kind) bytes (default_at kind bytes)
unfolding default_at
default_at-read kind bytes = default_cases kind bytes (literal_at bytes) refl

append_at-read : (bytes rest : List ℕ) (p : Change × List ℕ) → Next (codes "append") bytes rest → append_at rest ≡ read_ok (Change × List ℕ) p → TakesTokens Change IsChange bytes p
unfolding append_at
append_at-read bytes rest p next e =
    both_ok (List ℕ × List ℕ) (Change × List ℕ) (TakesTokens Change IsChange bytes p) (needed_name rest) _ p e (λ name f1 e1.
    both_ok (Kind × List ℕ) (Change × List ℕ) (TakesTokens Change IsChange bytes p) (needed_kind name.1) _ p e1 (λ kind f2 e2.
    let n = needed_name-read rest name f1 in
    let k = needed_kind-read name.1 kind f2 in
    let d = default_at-read kind.0 kind.1 in
    let column = column_of name.0 kind.0 (default_at kind.0 kind.1).0 in
    let named : Next name.0 rest name.1 = subst (λ t. Next t rest name.1) n.is.1 n.next in
    let of_kind : Next (kind_word kind.0) name.1 kind.1 = subst (λ t. Next t name.1 kind.1) k.is k.next in
    let is : IsAppend (codes "append" ∷ name.0 ∷ kind_word kind.0 ∷ d.tokens) column = record {
      rest = d.tokens;
      spelled = refl;
      name = sym (ap is_name n.is.1) ∙ n.is.0;
      default = d.is;
    } in
    let found : TakesTokens Change IsChange bytes (Append column, (default_at kind.0 kind.1).1) = record {
      tokens = codes "append" ∷ name.0 ∷ kind_word kind.0 ∷ d.tokens;
      front = (rest, next, (name.1, named, (kind.1, of_kind, d.front)));
      is = is;
    } in
    subst (TakesTokens Change IsChange bytes) (ok_same (Change × List ℕ) (Append column, (default_at kind.0 kind.1).1) p e2) found))

widen_at-read : (bytes rest : List ℕ) (p : Change × List ℕ) → Next (codes "widen") bytes rest → widen_at rest ≡ read_ok (Change × List ℕ) p → TakesTokens Change IsChange bytes p
unfolding widen_at
widen_at-read bytes rest p next e =
    both_ok (List ℕ × List ℕ) (Change × List ℕ) (TakesTokens Change IsChange bytes p) (needed_name rest) _ p e (λ name f1 e1.
    let n = needed_name-read rest name f1 in
    let named : Next name.0 rest name.1 = subst (λ t. Next t rest name.1) n.is.1 n.next in
    let found : TakesTokens Change IsChange bytes (Widen name.0, name.1) = record {
      tokens = codes "widen" ∷ name.0 ∷ [];
      front = (rest, next, (name.1, named, refl));
      is = (refl, sym (ap is_name n.is.1) ∙ n.is.0);
    } in
    subst (TakesTokens Change IsChange bytes) (ok_same (Change × List ℕ) (Widen name.0, name.1) p e1) found)

change_cases : (bytes : List ℕ) (r s : Option (List ℕ)) (p : Change × List ℕ) → after_word (codes "append") bytes ≡ r → after_word (codes "widen") bytes ≡ s
    → change_after r s bytes ≡ read_ok (Change × List ℕ) p → TakesTokens Change IsChange bytes p
change_cases bytes (Some rest) s p eq eq2 e = append_at-read bytes rest p (after_word-read (codes "append") bytes rest eq (record { some = omega arith; bare = refl })) e
change_cases bytes None (Some rest) p eq eq2 e = widen_at-read bytes rest p (after_word-read (codes "widen") bytes rest eq2 (record { some = omega arith; bare = refl })) e
change_cases bytes None None p eq eq2 e = cc

change_at-read : (bytes : List ℕ) (p : Change × List ℕ) → change_at bytes ≡ read_ok (Change × List ℕ) p → TakesTokens Change IsChange bytes p
unfolding change_at
change_at-read bytes p e = change_cases bytes (after_word (codes "append") bytes) (after_word (codes "widen") bytes) p refl refl e

-- a command's word, and what is behind it
pub record IsCommand (tokens : List (List ℕ)) (command : Command) : Type 0 where
  pub rest : List (List ℕ)
  pub spelled : tokens ≡ command_word command ∷ rest
  pub means : IsRest rest command

command_found : (bytes : List ℕ) (tokens : List (List ℕ)) (command : Command) (rest : List ℕ) (p : Command × List ℕ) → next_word bytes ≡ command_word command → IsStart (command_word command)
    → Front tokens (behind_next bytes) rest → IsRest tokens command → read_ok (Command × List ℕ) (command, rest) ≡ read_ok (Command × List ℕ) p → TakesTokens Command IsCommand bytes p
command_found bytes tokens command rest p word start front means e =
    let is : IsCommand (command_word command ∷ tokens) command = record { rest = tokens; spelled = refl; means = means } in
    let found : TakesTokens Command IsCommand bytes (command, rest) = record {
      tokens = command_word command ∷ tokens;
      front = (behind_next bytes, next_so (command_word command) bytes word start, front);
      is = is;
    } in
    subst (TakesTokens Command IsCommand bytes) (ok_same (Command × List ℕ) (command, rest) p e) found

word_by : (t : Bool) (word other : List ℕ) (here more : Result (Command × List ℕ) ℕ) (p : Command × List ℕ) (P : Type 0) → same word other ≡ t
    → (if t then here else more) ≡ read_ok (Command × List ℕ) p → (word ≡ other → here ≡ read_ok (Command × List ℕ) p → P) → (more ≡ read_ok (Command × List ℕ) p → P) → P
word_by true word other here more p P eq e first others = first (same-read word other eq) e
word_by false word other here more p P eq e first others = others e

word_step : (word other : List ℕ) (here more : Result (Command × List ℕ) ℕ) (p : Command × List ℕ) (P : Type 0)
    → (if same word other then here else more) ≡ read_ok (Command × List ℕ) p → (word ≡ other → here ≡ read_ok (Command × List ℕ) p → P) → (more ≡ read_ok (Command × List ℕ) p → P) → P
word_step word other here more p P e first others = word_by (same word other) word other here more p P refl e first others

said-read : (A : Type 0) (say : A → Command) (r : Result (A × List ℕ) ℕ) (p : Command × List ℕ) (P : Type 0) → said say r ≡ read_ok (Command × List ℕ) p
    → ((q : A × List ℕ) → r ≡ read_ok (A × List ℕ) q → read_ok (Command × List ℕ) (say q.0, q.1) ≡ read_ok (Command × List ℕ) p → P) → P
said-read A say (Ok q) p P e each = each q refl e
said-read A say (Err left) p P e each = cc

pub command_at-read : (bytes : List ℕ) (p : Command × List ℕ) → command_at bytes ≡ read_ok (Command × List ℕ) p → TakesTokens Command IsCommand bytes p
unfolding command_at command_by
command_at-read bytes p e =
    let P = TakesTokens Command IsCommand bytes p in
    let rest = behind_next bytes in
    word_step (next_word bytes) (codes "insert") _ _ p P e (λ w here. let t = literals_at-read rest in command_found bytes t.tokens (Insert (literals_at rest).0) (literals_at rest).1 p w (record { some = omega arith; bare = refl }) t.front t.is here) (λ e2.
    word_step (next_word bytes) (codes "scan") _ _ p P e2 (λ w here. said-read Query Scan (scan_at rest) p P here (λ q f g. let t = scan_at-read rest q f in command_found bytes t.tokens (Scan q.0) q.1 p w (record { some = omega arith; bare = refl }) t.front t.is g)) (λ e3.
    word_step (next_word bytes) (codes "latest") _ _ p P e3 (λ w here. let t = literals_at-read rest in command_found bytes t.tokens (Latest (literals_at rest).0) (literals_at rest).1 p w (record { some = omega arith; bare = refl }) t.front t.is here) (λ e4.
    word_step (next_word bytes) (codes "flush") _ _ p P e4 (λ w here. let t = maybe_count-read rest in command_found bytes t.tokens (Flush (maybe_count rest).0) (maybe_count rest).1 p w (record { some = omega arith; bare = refl }) t.front t.is here) (λ e5.
    word_step (next_word bytes) (codes "upkeep") _ _ p P e5 (λ w here. command_found bytes [] Upkeep rest p w (record { some = omega arith; bare = refl }) refl refl here) (λ e6.
    word_step (next_word bytes) (codes "alter") _ _ p P e6 (λ w here. said-read Change Alter (change_at rest) p P here (λ q f g. let t = change_at-read rest q f in command_found bytes t.tokens (Alter q.0) q.1 p w (record { some = omega arith; bare = refl }) t.front t.is g)) (λ e7.
    word_step (next_word bytes) (codes "tablets") _ _ p P e7 (λ w here. command_found bytes [] Tablets rest p w (record { some = omega arith; bare = refl }) refl refl here) (λ e8. cc)))))))

-- a command that nothing follows but spaces
record TakesLast (bytes : List ℕ) (command : Command) : Type 0 where
  tokens : List (List ℕ)
  rest : List ℕ
  front : Front tokens bytes rest
  is : IsCommand tokens command
  ends : skipped rest ≡ []

nil_of : (l : List ℕ) → nat_eq (length l) 0 ≡ true → l ≡ []
nil_of [] e = refl
nil_of (b ∷ bs) e = absurd (omega (arith, eqb-true (length (b ∷ bs)) 0 e))

last_by : (t : Bool) (bytes : List ℕ) (q : Command × List ℕ) (command : Command) → nat_eq (length (skipped q.1)) 0 ≡ t → command_at bytes ≡ read_ok (Command × List ℕ) q
    → (if t then read_ok Command q.0 else stopped q.1) ≡ read_ok Command command → TakesLast bytes command
last_by false bytes q command eq f e = cc
last_by true bytes q command eq f e =
    let t = command_at-read bytes q f in
    let found : TakesLast bytes q.0 = record { tokens = t.tokens; rest = q.1; front = t.front; is = t.is; ends = nil_of (skipped q.1) eq } in
    subst (TakesLast bytes) (ok_same Command q.0 command e) found

last_command-read : (bytes : List ℕ) (command : Command) → last_command bytes ≡ read_ok Command command → TakesLast bytes command
unfolding last_command
last_command-read bytes command e =
    both_ok (Command × List ℕ) Command (TakesLast bytes command) (command_at bytes) _ command e (λ q f e2. last_by (nat_eq (length (skipped q.1)) 0) bytes q command refl f e2)

-- nothing but spaces is skipped to the end
spaces_of : (rest : List ℕ) → skipped rest ≡ [] → list_all is_space rest ≡ true
unfolding skipped
spaces_of rest e =
    let n = prefix_len is_space rest in
    let all : rest ≡ take n rest = sym (take-append-drop n rest) ∙ ap (λ l. take n rest ++ l) e ∙ append-nil (take n rest) in
    ap (list_all is_space) all ∙ all_front is_space rest

request-read : (bytes rest name : List ℕ) (request : Option ℕ × Command) → Next (name ++ codes ":") bytes rest → IsClient name → request_at rest ≡ read_ok (Option ℕ × Command) request
    → IsSentence bytes name request.0 request.1
unfolding request_at
request-read bytes rest name request next is e =
    both_ok Command (Option ℕ × Command) (IsSentence bytes name request.0 request.1) (last_command (maybe_moment rest).1) _ request e (λ command f e2.
    let m = maybe_moment-read rest in
    let t = last_command-read (maybe_moment rest).1 command f in
    let front : Front (command_word command ∷ t.is.rest) (maybe_moment rest).1 t.rest = subst (λ ts. Front ts (maybe_moment rest).1 t.rest) t.is.spelled t.front in
    let are : AreTokens ((name ++ codes ":") ∷ (m.tokens ++ command_word command ∷ t.is.rest)) name (maybe_moment rest).0 command = record {
      moment_tokens = m.tokens;
      rest = t.is.rest;
      spelled = refl;
      name = is;
      when = m.is;
      means = t.is.means;
    } in
    let found : IsSentence bytes name (maybe_moment rest).0 command = record {
      tokens = (name ++ codes ":") ∷ (m.tokens ++ command_word command ∷ t.is.rest);
      rest = t.rest;
      front = (rest, next, front-append m.tokens (command_word command ∷ t.is.rest) rest (maybe_moment rest).1 t.rest m.front front);
      ends = spaces_of t.rest t.ends;
      are = are;
    } in
    subst (λ (q : Option ℕ × Command). IsSentence bytes name q.0 q.1) (ok_same (Option ℕ × Command) ((maybe_moment rest).0, command) request e2) found)

client_cases : (bytes rest name : List ℕ) (len : ℕ) (r : Result (Option ℕ × Command) ℕ) (client : List ℕ) (moment : Option ℕ) (command : Command) → Next (name ++ codes ":") bytes rest → IsClient name
    → request_at rest ≡ r → client_line len name r ≡ lines.Command client moment command → IsSentence bytes client moment command
client_cases bytes rest name len (Err left) client moment command next is eq e = cc
client_cases bytes rest name len (Ok q) client moment command next is eq e =
    let c : name ≡ client = cc in
    let m : q.0 ≡ moment = cc in
    let k : q.1 ≡ command = cc in
    subst (λ v. IsSentence bytes v moment command) c (subst (λ v. IsSentence bytes name v command) m (subst (λ v. IsSentence bytes name q.0 v) k (request-read bytes rest name q next is eq)))

line_cases : (bytes : List ℕ) (r : Option (List ℕ)) (client : List ℕ) (moment : Option ℕ) (command : Command) → client_of (next_word bytes) ≡ r → line_by r bytes (behind_next bytes) ≡ lines.Command client moment command
    → IsSentence bytes client moment command
line_cases bytes None client moment command eq e = cc
line_cases bytes (Some name) client moment command eq e =
    let t = client_of-read (next_word bytes) name eq in
    let start = client_of-start (next_word bytes) name eq in
    let next : Next (name ++ codes ":") bytes (behind_next bytes) = next_so (name ++ codes ":") bytes t.spelled (subst IsStart t.spelled start) in
    client_cases bytes (behind_next bytes) name (length bytes) (request_at (behind_next bytes)) client moment command next t.is refl e

remark_cases : (t : Bool) (bytes : List ℕ) (client : List ℕ) (moment : Option ℕ) (command : Command) → (if t then lines.Skip else line_by (client_of (next_word bytes)) bytes (behind_next bytes)) ≡ lines.Command client moment command
    → IsSentence bytes client moment command
remark_cases true bytes client moment command e = cc
remark_cases false bytes client moment command e = line_cases bytes (client_of (next_word bytes)) client moment command refl e

pub line_at-command : (bytes client : List ℕ) (moment : Option ℕ) (command : Command) → line_at bytes ≡ lines.Command client moment command → IsSentence bytes client moment command
unfolding line_at
line_at-command bytes client moment command e = remark_cases (is_remark (skipped bytes)) bytes client moment command e

no_skip : (bytes rest name : List ℕ) (len : ℕ) (s : Result (Option ℕ × Command) ℕ) (P : Type 0) → client_line len name s ≡ lines.Skip → P
no_skip bytes rest name len (Ok q) P e = cc
no_skip bytes rest name len (Err left) P e = cc

skip_by : (bytes : List ℕ) (r : Option (List ℕ)) (P : Type 0) → line_by r bytes (behind_next bytes) ≡ lines.Skip → P
skip_by bytes None P e = cc
skip_by bytes (Some name) P e = no_skip bytes (behind_next bytes) name (length bytes) (request_at (behind_next bytes)) P e

skip_cases : (t : Bool) (bytes : List ℕ) → is_remark (skipped bytes) ≡ t → (if t then lines.Skip else line_by (client_of (next_word bytes)) bytes (behind_next bytes)) ≡ lines.Skip → IsSkipped bytes
unfolding skipped
skip_cases true bytes eq e =
    let n = prefix_len is_space bytes in
    record { gap = take n bytes; remark = drop n bytes; spelled = sym (take-append-drop n bytes); spaces = all_front is_space bytes; is = eq }
skip_cases false bytes eq e = skip_by bytes (client_of (next_word bytes)) (IsSkipped bytes) e

pub line_at-skip : (bytes : List ℕ) → line_at bytes ≡ lines.Skip → IsSkipped bytes
unfolding line_at
line_at-skip bytes e = skip_cases (is_remark (skipped bytes)) bytes refl e
