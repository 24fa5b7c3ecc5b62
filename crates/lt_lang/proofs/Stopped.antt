-- Where reading stops, some lawful line begins with the tokens before that place.
use Rattle.std.proofs.Common.{◌≡◌, ℕ, pos, ◌-◌, ◌^◌, ◌≤◌, Bool, true, false, List, [], ◌∷◌, ◌++◌, length, refl, sym, ◌∙◌, ap, subst, arith, append_assoc, lit<, Option, Some, None, inl, inr}
use Rattle.std.proofs.lemmas.List.{append-nil}
use Rattle.std.specs.Prelude.{nat_eq, if◌then◌else◌, codes, Result, Ok, Err}
use Rattle.lt_schema.specs.Names.{is_name}
use Rattle.lt_schema.specs.declared.kind.Kind.{Kind}
use Rattle.lt_schema.specs.declared.kind.Kind.TheVariants.{Int32}
use Rattle.lt_schema.specs.declared.value.Value.{Value}
use Rattle.lt_schema.specs.declared.value.Value.TheVariants.{Int}
use Rattle.lt_schema.specs.declared.change.Change.{Change}
use Rattle.lt_schema.specs.declared.change.Change.TheVariants.{Append, Widen}
use Rattle.lt_schema.specs.Shapes.{ColumnShape}
use Rattle.lt_command.specs.declared.command.Command.{Command}
use Rattle.lt_command.specs.declared.command.Command.TheVariants.{Scan, Alter, Tablets}
use Rattle.lt_command.specs.declared.command.Line.TheVariants as lines
use Rattle.lt_command.specs.declared.query.Edge.{Edge}
use Rattle.lt_command.specs.declared.query.Query.{Query}
use Rattle.lt_lang.specs.Numbers.{IsCount}
use Rattle.lt_lang.specs.Tokens.{skipped}
use Rattle.lt_lang.specs.Literals.{IsLit, AreLits}
use Rattle.lt_lang.specs.Sentences.{Next, Front, IsClient, IsEdge, IsSomeEdge, IsTimes, IsSomeTimes, IsDirection, IsLimit, IsSomeLimit, IsScan, IsAppend, IsChange, IsRest, command_word, AreTokens, Begins, IsBad, is_remark}
use Rattle.lt_schema.specs.Values.{blank_of}
use Rattle.lt_lang.specs.Parsing.{◌>>=◌, same, needed, needed_count, maybe_moment, next_word, behind_next, after_word, literals_at, edge_by, edge_after, edge_at, times_after, times_at, direction_at, limit_after, limit_at, query_of, scan_at, needed_name, needed_kind, column_name, count_of, append_at, widen_at, change_after, change_at, stopped, said, command_by, command_at, last_command, request_at, client_line, line_by, line_at, client_of}
use Rattle.lt_schema.specs.Names.{kind_named}
use Rattle.lt_lang.proofs.WordForms.{IsStart, same-read, client_of-read, client_of-start}
use Rattle.lt_lang.proofs.Gaps.{front-append}
use Rattle.lt_lang.proofs.Understood.{read_ok, next_so, needed_count-read, maybe_moment-read, needed_name-read, after_word-read, literals_at-read}
use Rattle.lt_lang.proofs.Answered.{edge_word, AreTimes, edge_at-read, times_at-read, direction_at-read, IsCommand, command_at-read}

-- tokens that stand, tokens that could follow them, and what they would spell; so many bytes are left behind the first ones
record StopsIn (X : Type 0) (Is : List (List ℕ) → X → Type 0) (bytes : List ℕ) (left : ℕ) : Type 0 where
  tokens : List (List ℕ)
  more : List (List ℕ)
  value : X
  rest : List ℕ
  front : Front tokens bytes rest
  is : Is (tokens ++ more) value
  stops : length (skipped rest) ≡ left

abbrev read_err : (A : Type 0) → ℕ → Result A ℕ
read_err A left = Err left

err_same : (A : Type 0) (m n : ℕ) → read_err A m ≡ read_err A n → m ≡ n
err_same A m n e = cc

-- the first reader stops, or the next one does
either_err : (A B P : Type 0) (r : Result A ℕ) (f : A → Result B ℕ) (left : ℕ) → (r >>= f) ≡ read_err B left → (r ≡ read_err A left → P) → ((x : A) → r ≡ read_ok A x → f x ≡ read_err B left → P) → P
either_err A B P (Ok x) f left e first next = next x refl e
either_err A B P (Err k) f left e first next = first (ap (read_err A) (err_same B k left e))

needed_err : (A : Type 0) (r : Option A) (bytes rest : List ℕ) (left : ℕ) → needed r bytes rest ≡ read_err (A × List ℕ) left → length (skipped bytes) ≡ left
needed_err A None bytes rest left e = err_same (A × List ℕ) (length (skipped bytes)) left e
needed_err A (Some x) bytes rest left e = cc

count_err : (bytes : List ℕ) (left : ℕ) → needed_count bytes ≡ read_err (ℕ × List ℕ) left → length (skipped bytes) ≡ left
unfolding needed_count
count_err bytes left e = needed_err ℕ (count_of (next_word bytes)) bytes (behind_next bytes) left e

name_err : (bytes : List ℕ) (left : ℕ) → needed_name bytes ≡ read_err (List ℕ × List ℕ) left → length (skipped bytes) ≡ left
unfolding needed_name
name_err bytes left e = needed_err (List ℕ) (column_name (next_word bytes)) bytes (behind_next bytes) left e

kind_err : (bytes : List ℕ) (left : ℕ) → needed_kind bytes ≡ read_err (Kind × List ℕ) left → length (skipped bytes) ≡ left
unfolding needed_kind
kind_err bytes left e = needed_err Kind (kind_named (next_word bytes)) bytes (behind_next bytes) left e

zero_count : IsCount (codes "0") 0
zero_count = record { digits = refl; some = omega arith; few = omega arith; value = refl }

zero_literal : IsLit (codes "0") (Int (pos 0))
zero_literal = inl (record { number = 0; count = zero_count; within = lit< tt; value = refl })

no_literals : (tokens : List (List ℕ)) → AreLits tokens [] → tokens ≡ []
no_literals [] are = refl
no_literals (token ∷ tokens) are = absurd are

edge_none : (weak strict : List ℕ) (t : Bool) (bytes rest : List ℕ) (tokens : List (List ℕ)) (values : List Value) (after : List ℕ) (left : ℕ)
    → Next (edge_word weak strict t) bytes rest → Front tokens rest after → AreLits tokens values → edge_by t (values, after) ≡ read_err (Option Edge × List ℕ) left
    → StopsIn (Option Edge) (IsEdge weak strict) bytes left
edge_none weak strict t bytes rest tokens (value ∷ values) after left next front are e = cc
edge_none weak strict t bytes rest tokens [] after left next front are e =
    let edge : Edge = record { values = Int (pos 0) ∷ []; strict = t } in
    let nil = no_literals tokens are in
    let lits : AreLits (tokens ++ codes "0" ∷ []) (Int (pos 0) ∷ []) = subst (λ ts. AreLits (ts ++ codes "0" ∷ []) (Int (pos 0) ∷ [])) (sym nil) (zero_literal, tt) in
    let some : 1 ≤ length (tokens ++ codes "0" ∷ []) = subst (λ ts. 1 ≤ length (ts ++ codes "0" ∷ [])) (sym nil) (omega arith) in
    let is : IsSomeEdge weak strict (edge_word weak strict t ∷ (tokens ++ codes "0" ∷ [])) edge = record { literals = tokens ++ codes "0" ∷ []; spelled = refl; values = lits; some = some } in
    record {
      tokens = edge_word weak strict t ∷ tokens;
      more = codes "0" ∷ [];
      value = Some edge;
      rest = after;
      front = (rest, next, front);
      is = is;
      stops = err_same (Option Edge × List ℕ) (length (skipped after)) left e;
    }

edge_then : (weak strict : List ℕ) (t : Bool) (bytes rest : List ℕ) (left : ℕ) → Next (edge_word weak strict t) bytes rest → edge_by t (literals_at rest) ≡ read_err (Option Edge × List ℕ) left
    → StopsIn (Option Edge) (IsEdge weak strict) bytes left
edge_then weak strict t bytes rest left next e =
    let lits = literals_at-read rest in
    edge_none weak strict t bytes rest lits.tokens (literals_at rest).0 (literals_at rest).1 left next lits.front lits.is e

edge_cases : (weak strict bytes : List ℕ) (r s : Option (List ℕ)) (left : ℕ) → IsStart weak → IsStart strict → after_word weak bytes ≡ r → after_word strict bytes ≡ s
    → edge_after r s bytes ≡ read_err (Option Edge × List ℕ) left → StopsIn (Option Edge) (IsEdge weak strict) bytes left
edge_cases weak strict bytes (Some rest) s left f g eq eq2 e = edge_then weak strict false bytes rest left (after_word-read weak bytes rest eq f) e
edge_cases weak strict bytes None (Some rest) left f g eq eq2 e = edge_then weak strict true bytes rest left (after_word-read strict bytes rest eq2 g) e
edge_cases weak strict bytes None None left f g eq eq2 e = cc

edge_err : (weak strict bytes : List ℕ) (left : ℕ) → IsStart weak → IsStart strict → edge_at weak strict bytes ≡ read_err (Option Edge × List ℕ) left → StopsIn (Option Edge) (IsEdge weak strict) bytes left
unfolding edge_at
edge_err weak strict bytes left f g e = edge_cases weak strict bytes (after_word weak bytes) (after_word strict bytes) left f g refl refl e

times_cases : (bytes : List ℕ) (r : Option (List ℕ)) (left : ℕ) → after_word (codes "time") bytes ≡ r → times_after r bytes ≡ read_err ((ℕ × ℕ) × List ℕ) left → StopsIn (ℕ × ℕ) AreTimes bytes left
times_cases bytes None left eq e = cc
times_cases bytes (Some rest) left eq e =
    let next = after_word-read (codes "time") bytes rest eq (record { some = omega arith; bare = refl }) in
    either_err (ℕ × List ℕ) ((ℕ × ℕ) × List ℕ) (StopsIn (ℕ × ℕ) AreTimes bytes left) (needed_count rest) _ left e (λ f.
    let is : IsSomeTimes (codes "time" ∷ codes "0" ∷ codes "0" ∷ []) 0 0 = record { first = codes "0"; last = codes "0"; spelled = refl; first_count = zero_count; last_count = zero_count } in
    record { tokens = codes "time" ∷ []; more = codes "0" ∷ codes "0" ∷ []; value = (0, 0); rest = rest; front = (rest, next, refl); is = inr is; stops = count_err rest left f }) (λ from f e2.
    let first = needed_count-read rest from f in
    either_err (ℕ × List ℕ) ((ℕ × ℕ) × List ℕ) (StopsIn (ℕ × ℕ) AreTimes bytes left) (needed_count from.1) _ left e2 (λ g.
    let is : IsSomeTimes (codes "time" ∷ first.token ∷ codes "0" ∷ []) from.0 0 = record { first = first.token; last = codes "0"; spelled = refl; first_count = first.is; last_count = zero_count } in
    record { tokens = codes "time" ∷ first.token ∷ []; more = codes "0" ∷ []; value = (from.0, 0); rest = from.1; front = (rest, next, (from.1, first.next, refl)); is = inr is; stops = count_err from.1 left g }) (λ to g e3. cc))

times_err : (bytes : List ℕ) (left : ℕ) → times_at bytes ≡ read_err ((ℕ × ℕ) × List ℕ) left → StopsIn (ℕ × ℕ) AreTimes bytes left
unfolding times_at
times_err bytes left e = times_cases bytes (after_word (codes "time") bytes) left refl e

limit_cases : (bytes : List ℕ) (r : Option (List ℕ)) (left : ℕ) → after_word (codes "limit") bytes ≡ r → limit_after r bytes ≡ read_err (ℕ × List ℕ) left → StopsIn ℕ IsLimit bytes left
limit_cases bytes None left eq e = cc
limit_cases bytes (Some rest) left eq e =
    let is : IsSomeLimit (codes "limit" ∷ codes "0" ∷ []) 0 = record { token = codes "0"; spelled = refl; count = zero_count } in record {
      tokens = codes "limit" ∷ [];
      more = codes "0" ∷ [];
      value = 0;
      rest = rest;
      front = (rest, after_word-read (codes "limit") bytes rest eq (record { some = omega arith; bare = refl }), refl);
      is = inr is;
      stops = count_err rest left e;
    }

limit_err : (bytes : List ℕ) (left : ℕ) → limit_at bytes ≡ read_err (ℕ × List ℕ) left → StopsIn ℕ IsLimit bytes left
unfolding limit_at
limit_err bytes left e = limit_cases bytes (after_word (codes "limit") bytes) left refl e

-- tokens of the parts of a scan, of which the last may lack some
abbrev parts : List (List ℕ) → List (List ℕ) → List (List ℕ) → List (List ℕ) → List (List ℕ) → List (List ℕ)
parts lo hi times direction limit = lo ++ (hi ++ (times ++ (direction ++ limit)))

scan_from : (lo hi times direction limit tokens more : List (List ℕ)) (query : Query) → tokens ++ more ≡ parts lo hi times direction limit → IsEdge (codes "ge") (codes "gt") lo query.lo → IsEdge (codes "le") (codes "lt") hi query.hi
    → IsTimes times query.from query.to → IsDirection direction query.down → IsLimit limit query.limit → IsScan (tokens ++ more) query
scan_from lo hi times direction limit tokens more query spelled a b c d m =
    record { lo = lo; hi = hi; times = times; direction = direction; limit = limit; spelled = spelled; lo_edge = a; hi_edge = b; all_times = c; down = d; most = m }

scan_err : (bytes : List ℕ) (left : ℕ) → scan_at bytes ≡ read_err (Query × List ℕ) left → StopsIn Query IsScan bytes left
unfolding scan_at
scan_err bytes left e =
    let P = StopsIn Query IsScan bytes left in
    either_err (Option Edge × List ℕ) (Query × List ℕ) P (edge_at (codes "ge") (codes "gt") bytes) _ left e (λ f.
    let s = edge_err (codes "ge") (codes "gt") bytes left (record { some = omega arith; bare = refl }) (record { some = omega arith; bare = refl }) f in
    record {
      tokens = s.tokens;
      more = s.more;
      value = query_of s.value None (0, 2 ^ 62 - 1) false 1000;
      rest = s.rest;
      front = s.front;
      stops = s.stops;
      is = scan_from (s.tokens ++ s.more) [] [] [] [] s.tokens s.more (query_of s.value None (0, 2 ^ 62 - 1) false 1000) (sym (append-nil (s.tokens ++ s.more))) s.is refl (inl (refl, refl, refl)) (inl (refl, refl)) (inl (refl, refl));
    }) (λ lo f1 e1.
    let a = edge_at-read (codes "ge") (codes "gt") bytes lo (record { some = omega arith; bare = refl }) (record { some = omega arith; bare = refl }) f1 in
    either_err (Option Edge × List ℕ) (Query × List ℕ) P (edge_at (codes "le") (codes "lt") lo.1) _ left e1 (λ f.
    let s = edge_err (codes "le") (codes "lt") lo.1 left (record { some = omega arith; bare = refl }) (record { some = omega arith; bare = refl }) f in
    record {
      tokens = a.tokens ++ s.tokens;
      more = s.more;
      value = query_of lo.0 s.value (0, 2 ^ 62 - 1) false 1000;
      rest = s.rest;
      front = front-append a.tokens s.tokens bytes lo.1 s.rest a.front s.front;
      stops = s.stops;
      is = scan_from a.tokens (s.tokens ++ s.more) [] [] [] (a.tokens ++ s.tokens) s.more (query_of lo.0 s.value (0, 2 ^ 62 - 1) false 1000)
          (append_assoc a.tokens s.tokens s.more ∙ ap (λ l. a.tokens ++ l) (sym (append-nil (s.tokens ++ s.more)))) a.is s.is (inl (refl, refl, refl)) (inl (refl, refl)) (inl (refl, refl));
    }) (λ hi f2 e2.
    let b = edge_at-read (codes "le") (codes "lt") lo.1 hi (record { some = omega arith; bare = refl }) (record { some = omega arith; bare = refl }) f2 in
    either_err ((ℕ × ℕ) × List ℕ) (Query × List ℕ) P (times_at hi.1) _ left e2 (λ f.
    let s = times_err hi.1 left f in
    record {
      tokens = a.tokens ++ (b.tokens ++ s.tokens);
      more = s.more;
      value = query_of lo.0 hi.0 s.value false 1000;
      rest = s.rest;
      front = front-append a.tokens (b.tokens ++ s.tokens) bytes lo.1 s.rest a.front (front-append b.tokens s.tokens lo.1 hi.1 s.rest b.front s.front);
      stops = s.stops;
      is = scan_from a.tokens b.tokens (s.tokens ++ s.more) [] [] (a.tokens ++ (b.tokens ++ s.tokens)) s.more (query_of lo.0 hi.0 s.value false 1000)
          (append_assoc a.tokens (b.tokens ++ s.tokens) s.more ∙ ap (λ l. a.tokens ++ l) (append_assoc b.tokens s.tokens s.more ∙ ap (λ l. b.tokens ++ l) (sym (append-nil (s.tokens ++ s.more))))) a.is b.is s.is (inl (refl, refl)) (inl (refl, refl));
    }) (λ times f3 e3.
    let c = times_at-read hi.1 times f3 in
    let d = direction_at-read times.1 in
    either_err (ℕ × List ℕ) (Query × List ℕ) P (limit_at (direction_at times.1).1) _ left e3 (λ f.
    let s = limit_err (direction_at times.1).1 left f in
    let tokens = a.tokens ++ (b.tokens ++ (c.tokens ++ (d.tokens ++ s.tokens))) in
    record {
      tokens = tokens;
      more = s.more;
      value = query_of lo.0 hi.0 times.0 (direction_at times.1).0 s.value;
      rest = s.rest;
      front = front-append a.tokens (b.tokens ++ (c.tokens ++ (d.tokens ++ s.tokens))) bytes lo.1 s.rest a.front
          (front-append b.tokens (c.tokens ++ (d.tokens ++ s.tokens)) lo.1 hi.1 s.rest b.front
          (front-append c.tokens (d.tokens ++ s.tokens) hi.1 times.1 s.rest c.front (front-append d.tokens s.tokens times.1 (direction_at times.1).1 s.rest d.front s.front)));
      stops = s.stops;
      is = scan_from a.tokens b.tokens c.tokens d.tokens (s.tokens ++ s.more) tokens s.more (query_of lo.0 hi.0 times.0 (direction_at times.1).0 s.value)
          (append_assoc a.tokens (b.tokens ++ (c.tokens ++ (d.tokens ++ s.tokens))) s.more ∙ ap (λ l. a.tokens ++ l) (append_assoc b.tokens (c.tokens ++ (d.tokens ++ s.tokens)) s.more
          ∙ ap (λ l. b.tokens ++ l) (append_assoc c.tokens (d.tokens ++ s.tokens) s.more ∙ ap (λ l. c.tokens ++ l) (append_assoc d.tokens s.tokens s.more)))) a.is b.is c.is d.is s.is;
    }) (λ limit f4 e4. cc))))

append_err : (bytes rest : List ℕ) (left : ℕ) → Next (codes "append") bytes rest → append_at rest ≡ read_err (Change × List ℕ) left → StopsIn Change IsChange bytes left
unfolding append_at
append_err bytes rest left next e =
    either_err (List ℕ × List ℕ) (Change × List ℕ) (StopsIn Change IsChange bytes left) (needed_name rest) _ left e (λ f.
    let column : ColumnShape = record { name = codes "a"; kind = Int32; default = blank_of Int32 } in
    let is : IsAppend (codes "append" ∷ codes "a" ∷ codes "int32" ∷ []) column = record { rest = []; spelled = refl; name = refl; default = inl (refl, refl) } in
    record { tokens = codes "append" ∷ []; more = codes "a" ∷ codes "int32" ∷ []; value = Append column; rest = rest; front = (rest, next, refl); is = is; stops = name_err rest left f }) (λ name f1 e1.
    let n = needed_name-read rest name f1 in
    let named : Next name.0 rest name.1 = subst (λ t. Next t rest name.1) n.is.1 n.next in
    either_err (Kind × List ℕ) (Change × List ℕ) (StopsIn Change IsChange bytes left) (needed_kind name.1) _ left e1 (λ f.
    let column : ColumnShape = record { name = name.0; kind = Int32; default = blank_of Int32 } in
    let is : IsAppend (codes "append" ∷ name.0 ∷ codes "int32" ∷ []) column = record { rest = []; spelled = refl; name = sym (ap is_name n.is.1) ∙ n.is.0; default = inl (refl, refl) } in
    record { tokens = codes "append" ∷ name.0 ∷ []; more = codes "int32" ∷ []; value = Append column; rest = name.1; front = (rest, next, (name.1, named, refl)); is = is; stops = kind_err name.1 left f }) (λ kind f2 e2. cc))

widen_err : (bytes rest : List ℕ) (left : ℕ) → Next (codes "widen") bytes rest → widen_at rest ≡ read_err (Change × List ℕ) left → StopsIn Change IsChange bytes left
unfolding widen_at
widen_err bytes rest left next e =
    either_err (List ℕ × List ℕ) (Change × List ℕ) (StopsIn Change IsChange bytes left) (needed_name rest) _ left e (λ f.
    record { tokens = codes "widen" ∷ []; more = codes "a" ∷ []; value = Widen (codes "a"); rest = rest; front = (rest, next, refl); is = (refl, refl); stops = name_err rest left f }) (λ name f1 e1. cc)

change_cases : (bytes : List ℕ) (r s : Option (List ℕ)) (left : ℕ) → after_word (codes "append") bytes ≡ r → after_word (codes "widen") bytes ≡ s
    → change_after r s bytes ≡ read_err (Change × List ℕ) left → StopsIn Change IsChange bytes left
change_cases bytes (Some rest) s left eq eq2 e = append_err bytes rest left (after_word-read (codes "append") bytes rest eq (record { some = omega arith; bare = refl })) e
change_cases bytes None (Some rest) left eq eq2 e = widen_err bytes rest left (after_word-read (codes "widen") bytes rest eq2 (record { some = omega arith; bare = refl })) e
change_cases bytes None None left eq eq2 e = record {
  tokens = [];
  more = codes "widen" ∷ codes "a" ∷ [];
  value = Widen (codes "a");
  rest = bytes;
  front = refl;
  is = (refl, refl);
  stops = err_same (Change × List ℕ) (length (skipped bytes)) left e;
}

change_err : (bytes : List ℕ) (left : ℕ) → change_at bytes ≡ read_err (Change × List ℕ) left → StopsIn Change IsChange bytes left
unfolding change_at
change_err bytes left e = change_cases bytes (after_word (codes "append") bytes) (after_word (codes "widen") bytes) left refl refl e

word_by : (t : Bool) (word other : List ℕ) (here more : Result (Command × List ℕ) ℕ) (left : ℕ) (P : Type 0) → same word other ≡ t
    → (if t then here else more) ≡ read_err (Command × List ℕ) left → (word ≡ other → here ≡ read_err (Command × List ℕ) left → P) → (more ≡ read_err (Command × List ℕ) left → P) → P
word_by true word other here more left P eq e first others = first (same-read word other eq) e
word_by false word other here more left P eq e first others = others e

word_step : (word other : List ℕ) (here more : Result (Command × List ℕ) ℕ) (left : ℕ) (P : Type 0)
    → (if same word other then here else more) ≡ read_err (Command × List ℕ) left → (word ≡ other → here ≡ read_err (Command × List ℕ) left → P) → (more ≡ read_err (Command × List ℕ) left → P) → P
word_step word other here more left P e first others = word_by (same word other) word other here more left P refl e first others

said_err : (A : Type 0) (say : A → Command) (r : Result (A × List ℕ) ℕ) (left : ℕ) → said say r ≡ read_err (Command × List ℕ) left → r ≡ read_err (A × List ℕ) left
said_err A say (Ok q) left e = cc
said_err A say (Err k) left e = ap (read_err (A × List ℕ)) (err_same (Command × List ℕ) k left e)

behind_word : (A : Type 0) (Is : List (List ℕ) → A → Type 0) (say : A → Command) (word bytes : List ℕ) (left : ℕ) → ((x : A) → command_word (say x) ≡ word) → ((tokens : List (List ℕ)) (x : A) → Is tokens x → IsRest tokens (say x))
    → next_word bytes ≡ word → IsStart word → StopsIn A Is (behind_next bytes) left → StopsIn Command IsCommand bytes left
behind_word A Is say word bytes left cw rest_is w start s =
    let is : IsCommand (word ∷ (s.tokens ++ s.more)) (say s.value) = record { rest = s.tokens ++ s.more; spelled = ap (λ v. v ∷ (s.tokens ++ s.more)) (sym (cw s.value)); means = rest_is (s.tokens ++ s.more) s.value s.is } in
    record { tokens = word ∷ s.tokens; more = s.more; value = say s.value; rest = s.rest; front = (behind_next bytes, next_so word bytes w start, s.front); is = is; stops = s.stops }

command_err : (bytes : List ℕ) (left : ℕ) → command_at bytes ≡ read_err (Command × List ℕ) left → StopsIn Command IsCommand bytes left
unfolding command_at command_by
command_err bytes left e =
    let P = StopsIn Command IsCommand bytes left in
    let rest = behind_next bytes in
    word_step (next_word bytes) (codes "insert") _ _ left P e (λ w here. cc) (λ e2.
    word_step (next_word bytes) (codes "scan") _ _ left P e2 (λ w here. behind_word Query IsScan Scan (codes "scan") bytes left (λ x. refl) (λ ts x is. is) w (record { some = omega arith; bare = refl }) (scan_err rest left (said_err Query Scan (scan_at rest) left here))) (λ e3.
    word_step (next_word bytes) (codes "latest") _ _ left P e3 (λ w here. cc) (λ e4.
    word_step (next_word bytes) (codes "flush") _ _ left P e4 (λ w here. cc) (λ e5.
    word_step (next_word bytes) (codes "upkeep") _ _ left P e5 (λ w here. cc) (λ e6.
    word_step (next_word bytes) (codes "alter") _ _ left P e6 (λ w here. behind_word Change IsChange Alter (codes "alter") bytes left (λ x. refl) (λ ts x is. is) w (record { some = omega arith; bare = refl }) (change_err rest left (said_err Change Alter (change_at rest) left here))) (λ e7.
    word_step (next_word bytes) (codes "tablets") _ _ left P e7 (λ w here. cc) (λ e8.
    let is : IsCommand (codes "tablets" ∷ []) Tablets = record { rest = []; spelled = refl; means = refl } in
    record { tokens = []; more = codes "tablets" ∷ []; value = Tablets; rest = bytes; front = refl; is = is; stops = err_same (Command × List ℕ) (length (skipped bytes)) left e8 })))))))

last_by : (t : Bool) (bytes : List ℕ) (q : Command × List ℕ) (left : ℕ) → command_at bytes ≡ read_ok (Command × List ℕ) q → (if t then read_ok Command q.0 else stopped q.1) ≡ read_err Command left → StopsIn Command IsCommand bytes left
last_by true bytes q left f e = cc
last_by false bytes q left f e =
    let t = command_at-read bytes q f in
    record { tokens = t.tokens; more = []; value = q.0; rest = q.1; front = t.front; is = subst (λ ts. IsCommand ts q.0) (sym (append-nil t.tokens)) t.is; stops = err_same Command (length (skipped q.1)) left e }

last_err : (bytes : List ℕ) (left : ℕ) → last_command bytes ≡ read_err Command left → StopsIn Command IsCommand bytes left
unfolding last_command
last_err bytes left e =
    either_err (Command × List ℕ) Command (StopsIn Command IsCommand bytes left) (command_at bytes) _ left e (λ f. command_err bytes left f) (λ q f e2. last_by (nat_eq (length (skipped q.1)) 0) bytes q left f e2)

bad_by : (bytes rest name : List ℕ) (at left : ℕ) → Next (name ++ codes ":") bytes rest → IsClient name → at ≡ length bytes - left → request_at rest ≡ read_err (Option ℕ × Command) left → IsBad bytes name at
unfolding request_at
bad_by bytes rest name at left next is place e =
    let m = maybe_moment-read rest in
    either_err Command (Option ℕ × Command) (IsBad bytes name at) (last_command (maybe_moment rest).1) _ left e (λ f.
    let s = last_err (maybe_moment rest).1 left f in
    let tokens = (name ++ codes ":") ∷ (m.tokens ++ s.tokens) in
    let all : m.tokens ++ s.tokens ++ s.more ≡ m.tokens ++ (command_word s.value ∷ s.is.rest) = append_assoc m.tokens s.tokens s.more ∙ ap (λ l. m.tokens ++ l) s.is.spelled in
    let are : AreTokens (tokens ++ s.more) name (maybe_moment rest).0 s.value = record {
      moment_tokens = m.tokens;
      rest = s.is.rest;
      spelled = ap (λ l. (name ++ codes ":") ∷ l) all;
      name = is;
      when = m.is;
      means = s.is.means;
    } in
    let begins : Begins tokens = record { more = s.more; client = name; moment = (maybe_moment rest).0; command = s.value; are = are } in
    record {
      tokens = tokens;
      rest = s.rest;
      front = (rest, next, front-append m.tokens s.tokens rest (maybe_moment rest).1 s.rest m.front s.front);
      begins = begins;
      place = place ∙ ap (λ n. length bytes - n) (sym s.stops);
      named = inr (m.tokens ++ s.tokens, refl);
    }) (λ command f e2. cc)

client_cases : (bytes rest name : List ℕ) (r : Result (Option ℕ × Command) ℕ) (client : List ℕ) (at : ℕ) → Next (name ++ codes ":") bytes rest → IsClient name → request_at rest ≡ r
    → client_line (length bytes) name r ≡ lines.Bad client at → IsBad bytes client at
client_cases bytes rest name (Ok q) client at next is eq e = cc
client_cases bytes rest name (Err left) client at next is eq e =
    let c : name ≡ client = cc in
    let place : length bytes - left ≡ at = cc in
    subst (λ v. IsBad bytes v at) c (bad_by bytes rest name at left next is (sym place) eq)

a_client : IsClient (codes "a")
a_client = record { some = omega arith; few = omega arith; bytes = refl }

line_cases : (bytes : List ℕ) (r : Option (List ℕ)) (client : List ℕ) (at : ℕ) → client_of (next_word bytes) ≡ r → line_by r bytes (behind_next bytes) ≡ lines.Bad client at → IsBad bytes client at
line_cases bytes None client at eq e =
    let c : codes "?" ≡ client = cc in
    let place : length bytes - length (skipped bytes) ≡ at = cc in
    let are : AreTokens (codes "a:" ∷ codes "tablets" ∷ []) (codes "a") None Tablets = record { moment_tokens = []; rest = []; spelled = refl; name = a_client; when = refl; means = refl } in
    let begins : Begins [] = record { more = codes "a:" ∷ codes "tablets" ∷ []; client = codes "a"; moment = None; command = Tablets; are = are } in
    record { tokens = []; rest = bytes; front = refl; begins = begins; place = sym place; named = inl (refl, sym c) }
line_cases bytes (Some name) client at eq e =
    let t = client_of-read (next_word bytes) name eq in
    let start = client_of-start (next_word bytes) name eq in
    let next : Next (name ++ codes ":") bytes (behind_next bytes) = next_so (name ++ codes ":") bytes t.spelled (subst IsStart t.spelled start) in
    client_cases bytes (behind_next bytes) name (request_at (behind_next bytes)) client at next t.is refl e

remark_cases : (t : Bool) (bytes client : List ℕ) (at : ℕ) → (if t then lines.Skip else line_by (client_of (next_word bytes)) bytes (behind_next bytes)) ≡ lines.Bad client at → IsBad bytes client at
remark_cases true bytes client at e = cc
remark_cases false bytes client at e = line_cases bytes (client_of (next_word bytes)) client at refl e

pub line_at-bad : (bytes client : List ℕ) (at : ℕ) → line_at bytes ≡ lines.Bad client at → IsBad bytes client at
unfolding line_at
line_at-bad bytes client at e = remark_cases (is_remark (skipped bytes)) bytes client at e
