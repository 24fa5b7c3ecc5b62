-- The parts of a scan that are so spelled are read.
use Rattle.std.proofs.Common.{◌≡◌, ℕ, ◌-◌, ◌^◌, ◌≤◌, Bool, true, false, List, [], ◌∷◌, ◌++◌, length, refl, sym, ◌∙◌, ap, subst, arith, Option, Some, None, inl, inr}
use Rattle.std.proofs.lemmas.List.{append-nil}
use Rattle.std.specs.Prelude.{nat_eq, not, if◌then◌else◌, codes, Result, ◌⊎◌, ⊤}
use Rattle.std.specs.List.{list_all}
use Rattle.std.specs.Cmp.{first_so, second_so}
use Rattle.lt_schema.specs.declared.value.Value.{Value}
use Rattle.lt_command.specs.declared.query.Edge.{Edge}
use Rattle.lt_command.specs.declared.query.Query.{Query}
use Rattle.lt_lang.specs.Numbers.{IsCount}
use Rattle.lt_lang.specs.Reading.{after, integer_at, unsigned_at, count_at}
use Rattle.lt_lang.specs.Tokens.{is_space, is_quoted, skipped, word_of}
use Rattle.lt_lang.specs.Literals.{AreLits}
use Rattle.lt_lang.specs.Sentences.{Next, Front, IsEdge, IsTimes, IsDirection, IsLimit, IsScan}
use Rattle.lt_lang.specs.Parsing.{◌>>=◌, same, integer_of, word_value, literal_here, needed, count_of, needed_count, next_word, behind_next, after_word, literal_at, literals_at, edge_by, edge_after, edge_at, times_after, times_at, direction_after, direction_at, limit_after, limit_at, query_of, scan_at}
use Rattle.lt_lang.proofs.WordForms.{IsStart, same-only, count_of-only, count_of-start}
use Rattle.lt_lang.proofs.Gaps.{skip_gap, skipped_next, next_is, front-split}
use Rattle.lt_lang.proofs.Understood.{read_ok}
use Rattle.lt_lang.proofs.Answered.{AreLits-length}
use Rattle.lt_lang.proofs.Spoken.{unquoted, literals_at-only}

-- one of these words
abbrev pub OneOf : List ℕ → List (List ℕ) → Type 0
OneOf word [] = ⊥
OneOf word (w ∷ ws) = (word ≡ w) ⊎ OneOf word ws

-- no tokens, or one of these words first
abbrev pub HeadIn : List (List ℕ) → List (List ℕ) → Type 0
HeadIn ws [] = ⊤
HeadIn ws (token ∷ tokens) = OneOf token ws

-- what a reader sees next: nothing, or one of these words
pub record SeesOne (ws : List (List ℕ)) (bytes : List ℕ) : Type 0 where
  pub bare : is_quoted (skipped bytes) ≡ false
  pub word : (next_word bytes ≡ []) ⊎ OneOf (next_word bytes) ws

-- a word that may begin a token
abbrev pub may_start : List ℕ → Bool
may_start [] = false
may_start (b ∷ bs) = not (nat_eq b 34)

no_of : (t : Bool) → not t ≡ true → t ≡ false
no_of true e = cc
no_of false e = refl

pub start_of : (word : List ℕ) → may_start word ≡ true → IsStart word
start_of [] e = cc
start_of (b ∷ bs) e = record { some = omega arith; bare = no_of (nat_eq b 34) e }

each_of : (test : List ℕ → Bool) (word : List ℕ) (ws : List (List ℕ)) → OneOf word ws → list_all test ws ≡ true → test word ≡ true
each_of test word [] one all = absurd one
each_of test word (w ∷ ws) (inl same_word) all = ap test same_word ∙ first_so (test w) (list_all test ws) all
each_of test word (w ∷ ws) (inr others) all = each_of test word ws others (second_so (test w) (list_all test ws) all)

pub skipped_spaces : (rest : List ℕ) → list_all is_space rest ≡ true → skipped rest ≡ []
skipped_spaces rest all = ap skipped (sym (append-nil rest)) ∙ skip_gap rest [] all refl

pub nothing_word : word_of [] ≡ []
unfolding word_of
nothing_word = refl

pub sees_end : (ws : List (List ℕ)) (bytes : List ℕ) → list_all is_space bytes ≡ true → SeesOne ws bytes
sees_end ws bytes all =
    let none = skipped_spaces bytes all in
    record { bare = ap is_quoted none; word = inl (ap word_of none ∙ nothing_word) }

sees_next : (ws : List (List ℕ)) (token bytes rest : List ℕ) → Next token bytes rest → OneOf token ws → list_all may_start ws ≡ true → SeesOne ws bytes
sees_next ws token bytes rest next one all =
    let start = start_of token (each_of may_start token ws one all) in
    let seen = next_is token bytes rest next start in
    record { bare = ap is_quoted (skipped_next token bytes rest next) ∙ unquoted token rest start; word = inr (subst (λ w. OneOf w ws) (sym seen.0) one) }

sees_one : (ws : List (List ℕ)) (tokens : List (List ℕ)) (bytes end : List ℕ) → Front tokens bytes end → list_all is_space end ≡ true → HeadIn ws tokens → list_all may_start ws ≡ true → SeesOne ws bytes
sees_one ws [] bytes end front all head starts = sees_end ws bytes (ap (list_all is_space) front ∙ all)
sees_one ws (token ∷ tokens) bytes end front all head starts = sees_next ws token bytes front.0 front.1 head starts

abbrev pub is_other : List ℕ → List ℕ → Bool
is_other word other = not (same other word)

nothing_same : (word : List ℕ) → may_start word ≡ true → same [] word ≡ false
nothing_same [] e = cc
nothing_same (b ∷ bs) e = refl

absent_by : (word bytes : List ℕ) (t : Bool) → same (next_word bytes) word ≡ t → t ≡ false → after_word word bytes ≡ None
unfolding after_word
absent_by word bytes t eq e = let h : same (next_word bytes) word ≡ false = eq ∙ e in rw h refl

not_same : (ws : List (List ℕ)) (word bytes : List ℕ) → SeesOne ws bytes → may_start word ≡ true → list_all (is_other word) ws ≡ true → same (next_word bytes) word ≡ false
not_same ws word bytes sees start others =
    elim sees.word [
      | inl none ↦ ap (λ w. same w word) none ∙ nothing_same word start
      | inr one ↦ no_of (same (next_word bytes) word) (each_of (is_other word) (next_word bytes) ws one others)
    ]

absent : (ws : List (List ℕ)) (word bytes : List ℕ) → SeesOne ws bytes → may_start word ≡ true → list_all (is_other word) ws ≡ true → after_word word bytes ≡ None
absent ws word bytes sees start others = absent_by word bytes (same (next_word bytes) word) refl (not_same ws word bytes sees start others)

abbrev pub is_none : Option Value → Bool
is_none None = true
is_none (Some value) = false

abbrev pub no_value : List ℕ → Bool
no_value word = is_none (word_value word)

none_of : (r : Option Value) → is_none r ≡ true → r ≡ None
none_of None e = refl
none_of (Some value) e = cc

nothing_value : word_value [] ≡ None
unfolding word_value after integer_of integer_at unsigned_at count_at
nothing_value = refl

see_no_value : (ws : List (List ℕ)) (bytes : List ℕ) → SeesOne ws bytes → list_all no_value ws ≡ true → word_value (next_word bytes) ≡ None
see_no_value ws bytes sees others =
    elim sees.word [
      | inl none ↦ ap word_value none ∙ nothing_value
      | inr one ↦ none_of (word_value (next_word bytes)) (each_of no_value (next_word bytes) ws one others)
    ]

pub no_literal : (ws : List (List ℕ)) (bytes : List ℕ) → SeesOne ws bytes → list_all no_value ws ≡ true → literal_at bytes ≡ None
unfolding literal_at literal_here
no_literal ws bytes sees others = let bare = sees.bare in rw (bare, see_no_value ws bytes sees others) refl

-- a word that stands next is found
pub present : (word bytes rest : List ℕ) → Next word bytes rest → IsStart word → after_word word bytes ≡ Some rest
unfolding after_word
present word bytes rest next start =
    let seen = next_is word bytes rest next start in
    let yes : same (next_word bytes) word ≡ true = same-only (next_word bytes) word seen.0 in
    rw (yes, seen.1) refl

-- another word stands next
pub other_next : (word token bytes rest : List ℕ) → Next token bytes rest → IsStart token → same token word ≡ false → after_word word bytes ≡ None
other_next word token bytes rest next start other = absent_by word bytes (same (next_word bytes) word) refl (ap (λ w. same w word) (next_is token bytes rest next start).0 ∙ other)

count_next : (token bytes rest : List ℕ) (n : ℕ) → Next token bytes rest → IsCount token n → needed_count bytes ≡ read_ok (ℕ × List ℕ) (n, rest)
unfolding needed_count
count_next token bytes rest n next is =
    let found = count_of-only token n is in
    let seen = next_is token bytes rest next (count_of-start token n found) in
    ap (λ w. needed (count_of w) bytes (behind_next bytes)) seen.0 ∙ ap (λ r. needed r bytes (behind_next bytes)) found ∙ ap (λ (l : List ℕ). read_ok (ℕ × List ℕ) (n, l)) seen.1

pub joined_ok : (A B : Type 0) (r : Result A ℕ) (f : A → Result B ℕ) (x : A) (y : B) → r ≡ read_ok A x → f x ≡ read_ok B y → (r >>= f) ≡ read_ok B y
joined_ok A B r f x y e g = rw e g

edge_some : (t : Bool) (values : List Value) (mid : List ℕ) → 1 ≤ length values → edge_by t (values, mid) ≡ read_ok (Option Edge × List ℕ) (Some (record { values = values; strict = t }), mid)
edge_some t [] mid some = absurd (omega arith)
edge_some t (value ∷ values) mid some = refl

edge_lits : (t : Bool) (literals : List (List ℕ)) (values : List Value) (rest mid : List ℕ) → Front literals rest mid → AreLits literals values → 1 ≤ length literals → literal_at mid ≡ None
    → edge_by t (literals_at rest) ≡ read_ok (Option Edge × List ℕ) (Some (record { values = values; strict = t }), mid)
edge_lits t literals values rest mid front are some none =
    let len = AreLits-length literals values are in
    ap (edge_by t) (literals_at-only literals values rest mid front are none) ∙ edge_some t values mid (omega arith)

edge_given : (t : Bool) (weak strict : List ℕ) (literals : List (List ℕ)) (values : List Value) (bytes mid : List ℕ) → may_start weak ≡ true → may_start strict ≡ true → same strict weak ≡ false
    → Front ((if t then strict else weak) ∷ literals) bytes mid → AreLits literals values → 1 ≤ length literals → literal_at mid ≡ None
    → edge_after (after_word weak bytes) (after_word strict bytes) bytes ≡ read_ok (Option Edge × List ℕ) (Some (record { values = values; strict = t }), mid)
edge_given false weak strict literals values bytes mid f g apart front are some none =
    ap (λ r. edge_after r (after_word strict bytes) bytes) (present weak bytes front.0 front.1 (start_of weak f))
    ∙ edge_lits false literals values front.0 mid front.2 are some none
edge_given true weak strict literals values bytes mid f g apart front are some none =
    ap (λ r. edge_after r (after_word strict bytes) bytes) (other_next weak strict bytes front.0 front.1 (start_of strict g) apart)
    ∙ ap (λ r. edge_after None r bytes) (present strict bytes front.0 front.1 (start_of strict g))
    ∙ edge_lits true literals values front.0 mid front.2 are some none

-- in front of what may follow
edge_only : (ws : List (List ℕ)) (weak strict : List ℕ) (tokens : List (List ℕ)) (edge : Option Edge) (bytes mid : List ℕ) → may_start weak ≡ true → may_start strict ≡ true → same strict weak ≡ false
    → IsEdge weak strict tokens edge → Front tokens bytes mid → SeesOne ws mid → list_all (is_other weak) ws ≡ true → list_all (is_other strict) ws ≡ true → list_all no_value ws ≡ true
    → edge_at weak strict bytes ≡ read_ok (Option Edge × List ℕ) (edge, mid)
unfolding edge_at
edge_only ws weak strict tokens None bytes mid f g apart is front sees no_weak no_strict no_lit =
    let here : bytes ≡ mid = subst (λ ts. Front ts bytes mid) is front in
    let sees_here = subst (SeesOne ws) (sym here) sees in
    ap (λ r. edge_after r (after_word strict bytes) bytes) (absent ws weak bytes sees_here f no_weak)
    ∙ ap (λ r. edge_after None r bytes) (absent ws strict bytes sees_here g no_strict)
    ∙ ap (λ (l : List ℕ). read_ok (Option Edge × List ℕ) (None, l)) here
edge_only ws weak strict tokens (Some edge) bytes mid f g apart is front sees no_weak no_strict no_lit =
    let given : Front ((if edge.strict then strict else weak) ∷ is.literals) bytes mid = subst (λ ts. Front ts bytes mid) is.spelled front in
    edge_given edge.strict weak strict is.literals edge.values bytes mid f g apart given is.values is.some (no_literal ws mid sees no_lit)

times_only : (ws : List (List ℕ)) (tokens : List (List ℕ)) (from to : ℕ) (bytes mid : List ℕ) → IsTimes tokens from to → Front tokens bytes mid → SeesOne ws mid → list_all (is_other (codes "time")) ws ≡ true
    → times_at bytes ≡ read_ok ((ℕ × ℕ) × List ℕ) ((from, to), mid)
unfolding times_at
times_only ws tokens from to bytes mid (inl is) front sees others =
    let here : bytes ≡ mid = subst (λ ts. Front ts bytes mid) is.0 front in
    let sees_here = subst (SeesOne ws) (sym here) sees in
    ap (λ r. times_after r bytes) (absent ws (codes "time") bytes sees_here refl others)
    ∙ ap (λ (l : List ℕ). read_ok ((ℕ × ℕ) × List ℕ) ((0, 2 ^ 62 - 1), l)) here
    ∙ ap (λ (n : ℕ). read_ok ((ℕ × ℕ) × List ℕ) ((n, 2 ^ 62 - 1), mid)) (sym is.1)
    ∙ ap (λ (n : ℕ). read_ok ((ℕ × ℕ) × List ℕ) ((from, n), mid)) (sym is.2)
times_only ws tokens from to bytes mid (inr is) front sees others =
    let given : Front (codes "time" ∷ is.first ∷ is.last ∷ []) bytes mid = subst (λ ts. Front ts bytes mid) is.spelled front in
    let r1 = given.0 in
    let r2 = given.2.0 in
    let r3 = given.2.2.0 in
    let here : r3 ≡ mid = given.2.2.2 in
    ap (λ r. times_after r bytes) (present (codes "time") bytes r1 given.1 (start_of (codes "time") refl))
    ∙ joined_ok (ℕ × List ℕ) ((ℕ × ℕ) × List ℕ) (needed_count r1) _ (from, r2) ((from, to), mid) (count_next is.first r1 r2 from given.2.1 is.first_count)
    (joined_ok (ℕ × List ℕ) ((ℕ × ℕ) × List ℕ) (needed_count r2) _ (to, r3) ((from, to), mid) (count_next is.last r2 r3 to given.2.2.1 is.last_count)
    (ap (λ (l : List ℕ). read_ok ((ℕ × ℕ) × List ℕ) ((from, to), l)) here))

abbrev direction_found : Bool → List ℕ → Bool × List ℕ
direction_found down l = (down, l)

direction_only : (ws : List (List ℕ)) (tokens : List (List ℕ)) (down : Bool) (bytes mid : List ℕ) → IsDirection tokens down → Front tokens bytes mid → SeesOne ws mid
    → list_all (is_other (codes "asc")) ws ≡ true → list_all (is_other (codes "desc")) ws ≡ true → direction_at bytes ≡ direction_found down mid
unfolding direction_at
direction_only ws tokens down bytes mid (inl is) front sees no_asc no_desc =
    let here : bytes ≡ mid = subst (λ ts. Front ts bytes mid) is.0 front in
    let sees_here = subst (SeesOne ws) (sym here) sees in
    ap (λ r. direction_after r (after_word (codes "desc") bytes) bytes) (absent ws (codes "asc") bytes sees_here refl no_asc)
    ∙ ap (λ r. direction_after None r bytes) (absent ws (codes "desc") bytes sees_here refl no_desc)
    ∙ ap (direction_found false) here ∙ ap (λ t. direction_found t mid) (sym is.1)
direction_only ws tokens down bytes mid (inr (inl is)) front sees no_asc no_desc =
    let given : Front (codes "asc" ∷ []) bytes mid = subst (λ ts. Front ts bytes mid) is.0 front in
    let here : given.0 ≡ mid = given.2 in
    ap (λ r. direction_after r (after_word (codes "desc") bytes) bytes) (present (codes "asc") bytes given.0 given.1 (start_of (codes "asc") refl))
    ∙ ap (direction_found false) here ∙ ap (λ t. direction_found t mid) (sym is.1)
direction_only ws tokens down bytes mid (inr (inr is)) front sees no_asc no_desc =
    let given : Front (codes "desc" ∷ []) bytes mid = subst (λ ts. Front ts bytes mid) is.0 front in
    let here : given.0 ≡ mid = given.2 in
    ap (λ r. direction_after r (after_word (codes "desc") bytes) bytes) (other_next (codes "asc") (codes "desc") bytes given.0 given.1 (start_of (codes "desc") refl) refl)
    ∙ ap (λ r. direction_after None r bytes) (present (codes "desc") bytes given.0 given.1 (start_of (codes "desc") refl))
    ∙ ap (direction_found true) here ∙ ap (λ t. direction_found t mid) (sym is.1)

limit_only : (ws : List (List ℕ)) (tokens : List (List ℕ)) (limit : ℕ) (bytes mid : List ℕ) → IsLimit tokens limit → Front tokens bytes mid → SeesOne ws mid → list_all (is_other (codes "limit")) ws ≡ true
    → limit_at bytes ≡ read_ok (ℕ × List ℕ) (limit, mid)
unfolding limit_at
limit_only ws tokens limit bytes mid (inl is) front sees others =
    let here : bytes ≡ mid = subst (λ ts. Front ts bytes mid) is.0 front in
    let sees_here = subst (SeesOne ws) (sym here) sees in
    ap (λ r. limit_after r bytes) (absent ws (codes "limit") bytes sees_here refl others)
    ∙ ap (λ (l : List ℕ). read_ok (ℕ × List ℕ) (1000, l)) here ∙ ap (λ (n : ℕ). read_ok (ℕ × List ℕ) (n, mid)) (sym is.1)
limit_only ws tokens limit bytes mid (inr is) front sees others =
    let given : Front (codes "limit" ∷ is.token ∷ []) bytes mid = subst (λ ts. Front ts bytes mid) is.spelled front in
    let here : given.2.0 ≡ mid = given.2.2 in
    ap (λ r. limit_after r bytes) (present (codes "limit") bytes given.0 given.1 (start_of (codes "limit") refl))
    ∙ count_next is.token given.0 given.2.0 limit given.2.1 is.count ∙ ap (λ (l : List ℕ). read_ok (ℕ × List ℕ) (limit, l)) here

one_left : (word : List ℕ) (ws vs : List (List ℕ)) → OneOf word ws → OneOf word (ws ++ vs)
one_left word [] vs one = absurd one
one_left word (w ∷ ws) vs (inl e) = inl e
one_left word (w ∷ ws) vs (inr others) = inr (one_left word ws vs others)

one_right : (word : List ℕ) (ws vs : List (List ℕ)) → OneOf word vs → OneOf word (ws ++ vs)
one_right word [] vs one = one
one_right word (w ∷ ws) vs one = inr (one_right word ws vs one)

head_right : (ws vs tokens : List (List ℕ)) → HeadIn vs tokens → HeadIn (ws ++ vs) tokens
head_right ws vs [] head = tt
head_right ws vs (token ∷ tokens) head = one_right token ws vs head

head-append : (ws vs a b : List (List ℕ)) → HeadIn ws a → HeadIn vs b → HeadIn (ws ++ vs) (a ++ b)
head-append ws vs [] b f g = head_right ws vs b g
head-append ws vs (token ∷ tokens) b f g = one_left token ws vs f

head_none : (ws tokens : List (List ℕ)) → tokens ≡ [] → HeadIn ws tokens
head_none ws tokens e = subst (HeadIn ws) (sym e) tt

limit_head : (tokens : List (List ℕ)) (limit : ℕ) → IsLimit tokens limit → HeadIn (codes "limit" ∷ []) tokens
limit_head tokens limit (inl is) = head_none (codes "limit" ∷ []) tokens is.0
limit_head tokens limit (inr is) = subst (HeadIn (codes "limit" ∷ [])) (sym is.spelled) (inl refl)

direction_head : (tokens : List (List ℕ)) (down : Bool) → IsDirection tokens down → HeadIn (codes "asc" ∷ codes "desc" ∷ []) tokens
direction_head tokens down (inl is) = head_none (codes "asc" ∷ codes "desc" ∷ []) tokens is.0
direction_head tokens down (inr (inl is)) = subst (HeadIn (codes "asc" ∷ codes "desc" ∷ [])) (sym is.0) (inl refl)
direction_head tokens down (inr (inr is)) = subst (HeadIn (codes "asc" ∷ codes "desc" ∷ [])) (sym is.0) (inr (inl refl))

times_head : (tokens : List (List ℕ)) (from to : ℕ) → IsTimes tokens from to → HeadIn (codes "time" ∷ []) tokens
times_head tokens from to (inl is) = head_none (codes "time" ∷ []) tokens is.0
times_head tokens from to (inr is) = subst (HeadIn (codes "time" ∷ [])) (sym is.spelled) (inl refl)

edge_word : (t : Bool) (weak strict : List ℕ) → OneOf (if t then strict else weak) (weak ∷ strict ∷ [])
edge_word false weak strict = inl refl
edge_word true weak strict = inr (inl refl)

edge_head : (weak strict : List ℕ) (tokens : List (List ℕ)) (edge : Option Edge) → IsEdge weak strict tokens edge → HeadIn (weak ∷ strict ∷ []) tokens
edge_head weak strict tokens None is = head_none (weak ∷ strict ∷ []) tokens is
edge_head weak strict tokens (Some edge) is = subst (HeadIn (weak ∷ strict ∷ [])) (sym is.spelled) (edge_word edge.strict weak strict)

abbrev from_limit : List (List ℕ)
from_limit = codes "limit" ∷ []

abbrev from_direction : List (List ℕ)
from_direction = codes "asc" ∷ codes "desc" ∷ codes "limit" ∷ []

abbrev from_times : List (List ℕ)
from_times = codes "time" ∷ codes "asc" ∷ codes "desc" ∷ codes "limit" ∷ []

abbrev from_hi : List (List ℕ)
from_hi = codes "le" ∷ codes "lt" ∷ codes "time" ∷ codes "asc" ∷ codes "desc" ∷ codes "limit" ∷ []

no_values : list_all no_value from_hi ≡ true
unfolding word_value after integer_of integer_at unsigned_at count_at
no_values = refl

fewer_values : list_all no_value from_times ≡ true
unfolding word_value after integer_of integer_at unsigned_at count_at
fewer_values = refl

pub scan_only : (tokens : List (List ℕ)) (query : Query) (bytes end : List ℕ) → IsScan tokens query → Front tokens bytes end → list_all is_space end ≡ true → scan_at bytes ≡ read_ok (Query × List ℕ) (query, end)
unfolding scan_at
scan_only tokens query bytes end is front spaces =
    let given : Front (is.lo ++ (is.hi ++ (is.times ++ (is.direction ++ is.limit)))) bytes end = subst (λ ts. Front ts bytes end) is.spelled front in
    let s1 = front-split is.lo (is.hi ++ (is.times ++ (is.direction ++ is.limit))) bytes end given in
    let s2 = front-split is.hi (is.times ++ (is.direction ++ is.limit)) s1.mid end s1.second in
    let s3 = front-split is.times (is.direction ++ is.limit) s2.mid end s2.second in
    let s4 = front-split is.direction is.limit s3.mid end s3.second in
    let h4 = limit_head is.limit query.limit is.most in
    let h3 = head-append (codes "asc" ∷ codes "desc" ∷ []) from_limit is.direction is.limit (direction_head is.direction query.down is.down) h4 in
    let h2 = head-append (codes "time" ∷ []) from_direction is.times (is.direction ++ is.limit) (times_head is.times query.from query.to is.all_times) h3 in
    let h1 = head-append (codes "le" ∷ codes "lt" ∷ []) from_times is.hi (is.times ++ (is.direction ++ is.limit)) (edge_head (codes "le") (codes "lt") is.hi query.hi is.hi_edge) h2 in
    let e1 = sees_one from_hi (is.hi ++ (is.times ++ (is.direction ++ is.limit))) s1.mid end s1.second spaces h1 refl in
    let e2 = sees_one from_times (is.times ++ (is.direction ++ is.limit)) s2.mid end s2.second spaces h2 refl in
    let e3 = sees_one from_direction (is.direction ++ is.limit) s3.mid end s3.second spaces h3 refl in
    let e4 = sees_one from_limit is.limit s4.mid end s4.second spaces h4 refl in
    let lo = edge_only from_hi (codes "ge") (codes "gt") is.lo query.lo bytes s1.mid refl refl refl is.lo_edge s1.first e1 refl refl no_values in
    let hi = edge_only from_times (codes "le") (codes "lt") is.hi query.hi s1.mid s2.mid refl refl refl is.hi_edge s2.first e2 refl refl fewer_values in
    let times = times_only from_direction is.times query.from query.to s2.mid s3.mid is.all_times s3.first e3 refl in
    let down = direction_only from_limit is.direction query.down s3.mid s4.mid is.down s4.first e4 refl refl in
    let limit = limit_only [] is.limit query.limit s4.mid end is.most s4.second (sees_end [] end spaces) refl in
    joined_ok (Option Edge × List ℕ) (Query × List ℕ) (edge_at (codes "ge") (codes "gt") bytes) _ (query.lo, s1.mid) (query, end) lo
    (joined_ok (Option Edge × List ℕ) (Query × List ℕ) (edge_at (codes "le") (codes "lt") s1.mid) _ (query.hi, s2.mid) (query, end) hi
    (joined_ok ((ℕ × ℕ) × List ℕ) (Query × List ℕ) (times_at s2.mid) _ ((query.from, query.to), s3.mid) (query, end) times
    (joined_ok (ℕ × List ℕ) (Query × List ℕ) (limit_at (direction_at s3.mid).1) _ (query.limit, end) (query, end) (ap (λ (d : Bool × List ℕ). limit_at d.1) down ∙ limit)
    (ap (λ (d : Bool × List ℕ). read_ok (Query × List ℕ) (query_of query.lo query.hi (query.from, query.to) d.0 query.limit, end)) down))))
