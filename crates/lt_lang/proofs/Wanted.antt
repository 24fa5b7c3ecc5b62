-- Commands and lines that are so spelled are read.
use Rattle.std.proofs.Common.{◌≡◌, ℕ, Bool, true, false, List, [], ◌∷◌, ◌++◌, length, refl, sym, ◌∙◌, ap, subst, arith, Option, Some, None, inl, inr}
use Rattle.std.proofs.lemmas.Bool.{eqb-true}
use Rattle.std.specs.Prelude.{nat_eq, if◌then◌else◌, codes, Result, Ok}
use Rattle.std.specs.List.{list_all, prefix_len}
use Rattle.std.specs.Cmp.{first_so}
use Rattle.lt_schema.specs.Names.{is_name, is_name_byte}
use Rattle.lt_schema.specs.declared.kind.Kind.{Kind}
use Rattle.lt_schema.specs.declared.value.Value.{Value}
use Rattle.lt_schema.specs.declared.change.Change.{Change}
use Rattle.lt_schema.specs.declared.change.Change.TheVariants.{Append, Widen}
use Rattle.lt_schema.specs.Shapes.{ColumnShape}
use Rattle.lt_command.specs.declared.command.Command.{Command}
use Rattle.lt_command.specs.declared.command.Command.TheVariants.{Insert, Scan, Latest, Flush, Upkeep, Alter, Tablets}
use Rattle.lt_command.specs.declared.command.Line.TheVariants as lines
use Rattle.lt_lang.specs.Numbers.{IsCount}
use Rattle.lt_lang.specs.Reading.{after, count_at}
use Rattle.lt_lang.specs.Tokens.{is_space, skipped, word_of}
use Rattle.lt_lang.specs.Sentences.{Next, Front, IsClient, IsMomentToken, IsOptional, IsDefault, IsChange, IsRest, command_word, IsSentence, IsSkipped, is_remark, kind_word}
use Rattle.lt_schema.specs.Values.{blank_of}
use Rattle.lt_lang.specs.Parsing.{needed, maybe, count_of, moment_of, column_name, maybe_count, maybe_moment, needed_name, needed_kind, next_word, behind_next, after_word, literal_at, default_by, default_at, column_of, append_at, widen_at, change_after, change_at, said, says, command_by, command_at, last_command, request_at, client_line, line_by, line_at, client_of}
use Rattle.lt_schema.specs.Names.{kind_named}
use Rattle.lt_lang.proofs.WordForms.{count_of-only, count_of-start, moment_of-only, moment_of-start, column_name-only, column_name-start, kind_named-only, kind_named-start, client_of-only, client_of-start}
use Rattle.lt_lang.proofs.Gaps.{skip_gap, skipped_next, next_is, front-split}
use Rattle.lt_lang.proofs.Understood.{read_ok}
use Rattle.lt_lang.proofs.Spoken.{literal_at-only, literals_at-only}
use Rattle.lt_lang.proofs.ScanParts.{may_start, start_of, skipped_spaces, nothing_word, sees_end, no_literal, present, other_next, joined_ok, scan_only}

abbrev value_found : Value → List ℕ → Value × List ℕ
value_found value l = (value, l)

default_only : (kind : Kind) (tokens : List (List ℕ)) (value : Value) (bytes end : List ℕ) → IsDefault kind tokens value → Front tokens bytes end → list_all is_space end ≡ true
    → default_at kind bytes ≡ value_found value end
unfolding default_at
default_only kind tokens value bytes end (inl is) front spaces =
    let here : bytes ≡ end = subst (λ ts. Front ts bytes end) is.0 front in
    let none : literal_at bytes ≡ None = ap literal_at here ∙ no_literal [] end (sees_end [] end spaces) refl in
    ap (λ r. default_by kind r bytes) none ∙ ap (value_found (blank_of kind)) here ∙ ap (λ v. value_found v end) (sym is.1)
default_only kind tokens value bytes end (inr is) front spaces =
    let given : Front (is.0 ∷ []) bytes end = subst (λ ts. Front ts bytes end) is.1 front in
    let here : given.0 ≡ end = given.2 in
    ap (λ r. default_by kind r bytes) (literal_at-only is.0 bytes given.0 value given.1 is.2) ∙ ap (value_found value) here

name_next : (name bytes rest : List ℕ) → Next name bytes rest → is_name name ≡ true → needed_name bytes ≡ read_ok (List ℕ × List ℕ) (name, rest)
unfolding needed_name
name_next name bytes rest next is =
    let found = column_name-only name is in
    let seen = next_is name bytes rest next (column_name-start name name found) in
    ap (λ w. needed (column_name w) bytes (behind_next bytes)) seen.0 ∙ ap (λ r. needed r bytes (behind_next bytes)) found ∙ ap (λ (l : List ℕ). read_ok (List ℕ × List ℕ) (name, l)) seen.1

kind_next : (kind : Kind) (bytes rest : List ℕ) → Next (kind_word kind) bytes rest → needed_kind bytes ≡ read_ok (Kind × List ℕ) (kind, rest)
unfolding needed_kind
kind_next kind bytes rest next =
    let found = kind_named-only kind in
    let seen = next_is (kind_word kind) bytes rest next (kind_named-start (kind_word kind) kind found) in
    ap (λ w. needed (kind_named w) bytes (behind_next bytes)) seen.0 ∙ ap (λ r. needed r bytes (behind_next bytes)) found ∙ ap (λ (l : List ℕ). read_ok (Kind × List ℕ) (kind, l)) seen.1

append_only : (column : ColumnShape) (tokens : List (List ℕ)) (bytes end : List ℕ) → Front (column.name ∷ kind_word column.kind ∷ tokens) bytes end → is_name column.name ≡ true → IsDefault column.kind tokens column.default
    → list_all is_space end ≡ true → append_at bytes ≡ read_ok (Change × List ℕ) (Append column, end)
unfolding append_at
append_only column tokens bytes end front named is spaces =
    let d = default_only column.kind tokens column.default front.2.0 end is front.2.2 spaces in
    joined_ok (List ℕ × List ℕ) (Change × List ℕ) (needed_name bytes) _ (column.name, front.0) (Append column, end) (name_next column.name bytes front.0 front.1 named)
    (joined_ok (Kind × List ℕ) (Change × List ℕ) (needed_kind front.0) _ (column.kind, front.2.0) (Append column, end) (kind_next column.kind front.0 front.2.0 front.2.1)
    (ap (λ (p : Value × List ℕ). read_ok (Change × List ℕ) (Append (column_of column.name column.kind p.0), p.1)) d))

widen_only : (name bytes rest end : List ℕ) → Next name bytes rest → is_name name ≡ true → rest ≡ end → widen_at bytes ≡ read_ok (Change × List ℕ) (Widen name, end)
unfolding widen_at
widen_only name bytes rest end next named here =
    joined_ok (List ℕ × List ℕ) (Change × List ℕ) (needed_name bytes) _ (name, rest) (Widen name, end) (name_next name bytes rest next named)
    (ap (λ (l : List ℕ). read_ok (Change × List ℕ) (Widen name, l)) here)

change_only : (change : Change) (tokens : List (List ℕ)) (bytes end : List ℕ) → IsChange tokens change → Front tokens bytes end → list_all is_space end ≡ true → change_at bytes ≡ read_ok (Change × List ℕ) (change, end)
unfolding change_at
change_only (Append column) tokens bytes end is front spaces =
    let given : Front (codes "append" ∷ column.name ∷ kind_word column.kind ∷ is.rest) bytes end = subst (λ ts. Front ts bytes end) is.spelled front in
    ap (λ r. change_after r (after_word (codes "widen") bytes) bytes) (present (codes "append") bytes given.0 given.1 (start_of (codes "append") refl))
    ∙ append_only column is.rest given.0 end given.2 is.name is.default spaces
change_only (Widen name) tokens bytes end is front spaces =
    let given : Front (codes "widen" ∷ name ∷ []) bytes end = subst (λ ts. Front ts bytes end) is.0 front in
    ap (λ r. change_after r (after_word (codes "widen") bytes) bytes) (other_next (codes "append") (codes "widen") bytes given.0 given.1 (start_of (codes "widen") refl) refl)
    ∙ ap (λ r. change_after None r bytes) (present (codes "widen") bytes given.0 given.1 (start_of (codes "widen") refl))
    ∙ widen_only name given.0 given.2.0 end given.2.1 is.1 given.2.2

abbrev maybe_found : Option ℕ → List ℕ → Option ℕ × List ℕ
maybe_found r l = (r, l)

nothing_next : (bytes : List ℕ) → list_all is_space bytes ≡ true → next_word bytes ≡ []
nothing_next bytes spaces = ap word_of (skipped_spaces bytes spaces) ∙ nothing_word

no_count : count_of [] ≡ None
unfolding count_of count_at
no_count = refl

count_only : (tokens : List (List ℕ)) (tablet : Option ℕ) (bytes end : List ℕ) → IsOptional IsCount tokens tablet → Front tokens bytes end → list_all is_space end ≡ true → maybe_count bytes ≡ maybe_found tablet end
unfolding maybe_count
count_only tokens None bytes end is front spaces =
    let here : bytes ≡ end = subst (λ ts. Front ts bytes end) is front in
    let none : count_of (next_word bytes) ≡ None = ap count_of (ap next_word here ∙ nothing_next end spaces) ∙ no_count in
    ap (λ r. maybe r bytes (behind_next bytes)) none ∙ ap (maybe_found None) here
count_only tokens (Some n) bytes end is front spaces =
    let given : Front (is.0 ∷ []) bytes end = subst (λ ts. Front ts bytes end) is.1 front in
    let found = count_of-only is.0 n is.2 in
    let seen = next_is is.0 bytes given.0 given.1 (count_of-start is.0 n found) in
    let here : given.0 ≡ end = given.2 in
    ap (λ w. maybe (count_of w) bytes (behind_next bytes)) seen.0 ∙ ap (λ r. maybe r bytes (behind_next bytes)) found ∙ ap (maybe_found (Some n)) (seen.1 ∙ here)

no_moment : (command : Command) → moment_of (command_word command) ≡ None
unfolding moment_of after
no_moment (Insert row) = refl
no_moment (Scan query) = refl
no_moment (Latest prefix) = refl
no_moment (Flush tablet) = refl
no_moment Upkeep = refl
no_moment (Alter change) = refl
no_moment Tablets = refl

command_start : (command : Command) → may_start (command_word command) ≡ true
command_start (Insert row) = refl
command_start (Scan query) = refl
command_start (Latest prefix) = refl
command_start (Flush tablet) = refl
command_start Upkeep = refl
command_start (Alter change) = refl
command_start Tablets = refl

moment_only : (tokens : List (List ℕ)) (moment : Option ℕ) (command : Command) (bytes mid rest : List ℕ) → IsOptional IsMomentToken tokens moment → Front tokens bytes mid → Next (command_word command) mid rest
    → maybe_moment bytes ≡ maybe_found moment mid
unfolding maybe_moment
moment_only tokens None command bytes mid rest is front next =
    let here : bytes ≡ mid = subst (λ ts. Front ts bytes mid) is front in
    let word = (next_is (command_word command) mid rest next (start_of (command_word command) (command_start command))).0 in
    let none : moment_of (next_word bytes) ≡ None = ap moment_of (ap next_word here ∙ word) ∙ no_moment command in
    ap (λ r. maybe r bytes (behind_next bytes)) none ∙ ap (maybe_found None) here
moment_only tokens (Some n) command bytes mid rest is front next =
    let given : Front (is.0 ∷ []) bytes mid = subst (λ ts. Front ts bytes mid) is.1 front in
    let found = moment_of-only is.0 n is.2 in
    let seen = next_is is.0 bytes given.0 given.1 (moment_of-start is.0 n found) in
    let here : given.0 ≡ mid = given.2 in
    ap (λ w. maybe (moment_of w) bytes (behind_next bytes)) seen.0 ∙ ap (λ r. maybe r bytes (behind_next bytes)) found ∙ ap (maybe_found (Some n)) (seen.1 ∙ here)

abbrev command_found : Command → List ℕ → Result (Command × List ℕ) ℕ
command_found command l = Ok (command, l)

by_word : (command : Command) (tokens : List (List ℕ)) (bytes end : List ℕ) (left : ℕ) → IsRest tokens command → Front tokens bytes end → list_all is_space end ≡ true
    → command_by (command_word command) bytes left ≡ command_found command end
unfolding command_by
by_word (Insert row) tokens bytes end left is front spaces = ap (says Insert) (literals_at-only tokens row bytes end front is (no_literal [] end (sees_end [] end spaces) refl))
by_word (Scan query) tokens bytes end left is front spaces = ap (said Scan) (scan_only tokens query bytes end is front spaces)
by_word (Latest prefix) tokens bytes end left is front spaces = ap (says Latest) (literals_at-only tokens prefix bytes end front is (no_literal [] end (sees_end [] end spaces) refl))
by_word (Flush tablet) tokens bytes end left is front spaces = ap (says Flush) (count_only tokens tablet bytes end is front spaces)
by_word Upkeep tokens bytes end left is front spaces = ap (command_found Upkeep) (subst (λ ts. Front ts bytes end) is front)
by_word (Alter change) tokens bytes end left is front spaces = ap (said Alter) (change_only change tokens bytes end is front spaces)
by_word Tablets tokens bytes end left is front spaces = ap (command_found Tablets) (subst (λ ts. Front ts bytes end) is front)

command_only : (command : Command) (tokens : List (List ℕ)) (bytes rest end : List ℕ) → Next (command_word command) bytes rest → IsRest tokens command → Front tokens rest end → list_all is_space end ≡ true
    → command_at bytes ≡ command_found command end
unfolding command_at
command_only command tokens bytes rest end next is front spaces =
    let seen = next_is (command_word command) bytes rest next (start_of (command_word command) (command_start command)) in
    ap (λ w. command_by w (behind_next bytes) (length (skipped bytes))) seen.0 ∙ ap (λ l. command_by (command_word command) l (length (skipped bytes))) seen.1
    ∙ by_word command tokens rest end (length (skipped bytes)) is front spaces

last_only : (command : Command) (bytes end : List ℕ) → command_at bytes ≡ command_found command end → list_all is_space end ≡ true → last_command bytes ≡ read_ok Command command
unfolding last_command
last_only command bytes end e spaces =
    joined_ok (Command × List ℕ) Command (command_at bytes) _ (command, end) command e (let none = skipped_spaces end spaces in rw none refl)

request_only : (moment_tokens tokens : List (List ℕ)) (moment : Option ℕ) (command : Command) (bytes end : List ℕ) → IsOptional IsMomentToken moment_tokens moment → IsRest tokens command
    → Front (moment_tokens ++ command_word command ∷ tokens) bytes end → list_all is_space end ≡ true → request_at bytes ≡ read_ok (Option ℕ × Command) (moment, command)
unfolding request_at
request_only moment_tokens tokens moment command bytes end when means front spaces =
    let s = front-split moment_tokens (command_word command ∷ tokens) bytes end front in
    let m = moment_only moment_tokens moment command bytes s.mid s.second.0 when s.first s.second.1 in
    let k = last_only command s.mid end (command_only command tokens s.mid s.second.0 end s.second.1 means s.second.2 spaces) spaces in
    joined_ok Command (Option ℕ × Command) (last_command (maybe_moment bytes).1) _ command (moment, command) (ap (λ (p : Option ℕ × List ℕ). last_command p.1) m ∙ k)
    (ap (λ (p : Option ℕ × List ℕ). read_ok (Option ℕ × Command) (p.0, command)) m)

no_remark_by : (t : Bool) (c : ℕ) → nat_eq c 35 ≡ t → is_name_byte c ≡ true → t ≡ false
no_remark_by true c e name = let h : is_name_byte 35 ≡ true = ap is_name_byte (sym (eqb-true c 35 e)) ∙ name in cc
no_remark_by false c e name = refl

no_remark : (name rest : List ℕ) → IsClient name → is_remark ((name ++ codes ":") ++ rest) ≡ false
no_remark [] rest is = let h = is.some in absurd (omega arith)
no_remark (c ∷ cs) rest is = no_remark_by (nat_eq c 35) c refl (first_so (is_name_byte c) (list_all is_name_byte cs) is.bytes)

pub sentence_line : (bytes client : List ℕ) (moment : Option ℕ) (command : Command) → IsSentence bytes client moment command → line_at bytes ≡ lines.Command client moment command
unfolding line_at
sentence_line bytes client moment command is =
    let token = client ++ codes ":" in
    let given : Front (token ∷ (is.are.moment_tokens ++ command_word command ∷ is.are.rest)) bytes is.rest = subst (λ ts. Front ts bytes is.rest) is.are.spelled is.front in
    let rest = given.0 in
    let next = given.1 in
    let named : client_of token ≡ Some client = client_of-only token client (record { spelled = refl; is = is.are.name }) in
    let seen = next_is token bytes rest next (client_of-start token client named) in
    let remark : is_remark (skipped bytes) ≡ false = ap is_remark (skipped_next token bytes rest next) ∙ no_remark client rest is.are.name in
    let request = request_only is.are.moment_tokens is.are.rest moment command rest is.rest is.are.when is.are.means given.2 is.ends in
    ap (λ t. if t then lines.Skip else line_by (client_of (next_word bytes)) bytes (behind_next bytes)) remark
    ∙ ap (λ w. line_by (client_of w) bytes (behind_next bytes)) seen.0 ∙ ap (λ r. line_by r bytes (behind_next bytes)) named
    ∙ ap (λ l. client_line (length bytes) client (request_at l)) seen.1 ∙ ap (client_line (length bytes) client) request

remark_len : (remark : List ℕ) → is_remark remark ≡ true → prefix_len is_space remark ≡ 0
remark_len [] e = refl
remark_len (b ∷ bs) e = let h : b ≡ 35 = eqb-true b 35 e in ap (λ c. prefix_len is_space (c ∷ bs)) h

pub skip_line : (bytes : List ℕ) → IsSkipped bytes → line_at bytes ≡ lines.Skip
unfolding line_at
skip_line bytes is =
    let here : skipped bytes ≡ is.remark = ap skipped is.spelled ∙ skip_gap is.gap is.remark is.spaces (remark_len is.remark is.is) in
    ap (λ t. if t then lines.Skip else line_by (client_of (next_word bytes)) bytes (behind_next bytes)) (ap is_remark here ∙ is.is)
