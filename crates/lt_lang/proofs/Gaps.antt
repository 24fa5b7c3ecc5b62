-- Tokens behind spaces: what a reader sees of them.
use Rattle.std.proofs.Common.{◌≡◌, ℕ, ◌+◌, Bool, true, false, List, [], ◌∷◌, ◌++◌, take, drop, refl, sym, ◌∙◌, ap, subst, arith, one-add, inl, inr}
use Rattle.std.proofs.Math.Seq.{take-append_seam, drop-append_seam}
use Rattle.std.proofs.lemmas.List.{take-append-drop}
use Rattle.std.specs.Prelude.{nat_eq, not, if◌then◌else◌}
use Rattle.std.specs.List.{list_all, prefix_len}
use Rattle.std.specs.Cmp.{first_so}
use Rattle.lt_lang.specs.Tokens.{is_space, is_solid, is_ended, is_quoted, IsRun, skipped, word_of, behind}
use Rattle.lt_lang.specs.Literals.{IsText, IsToken}
use Rattle.lt_lang.specs.Sentences.{Next, Front}
use Rattle.lt_lang.specs.Parsing.{next_word, behind_next}
use Rattle.lt_lang.proofs.Pieces.{all_front}
use Rattle.lt_lang.proofs.WordForms.{IsStart, prefix_run}

yes_of : (t : Bool) → not t ≡ false → t ≡ true
yes_of true e = refl
yes_of false e = cc

no_of : (t : Bool) → not t ≡ true → t ≡ false
no_of true e = cc
no_of false e = refl

ended_by : (t : Bool) (b : ℕ) (bs : List ℕ) → is_solid b ≡ t → is_ended (drop (prefix_len is_solid bs) bs) ≡ true → is_ended (drop (if t then 1 + prefix_len is_solid bs else 0) (b ∷ bs)) ≡ true
ended_by true b bs e more = rw one-add more
ended_by false b bs e more = yes_of (nat_eq b 32) e

pub drop_ended : (l : List ℕ) → is_ended (drop (prefix_len is_solid l) l) ≡ true
drop_ended [] = refl
drop_ended (b ∷ bs) = ended_by (is_solid b) b bs refl (drop_ended bs)

-- a word that was read is the next token
pub word_next : (bytes : List ℕ) → IsStart (next_word bytes) → Next (next_word bytes) bytes (behind_next bytes)
unfolding skipped word_of behind
word_next bytes start =
    let n = prefix_len is_space bytes in
    let here = drop n bytes in
    let m = prefix_len is_solid here in record {
      gap = take n bytes;
      spelled = sym (take-append-drop n bytes) ∙ ap (λ l. take n bytes ++ l) (sym (take-append-drop m here));
      spaces = all_front is_space bytes;
      is = inl (record { some = start.some; solid = all_front is_solid here; bare = start.bare });
      ended = drop_ended here;
    }

first_solid : (token rest : List ℕ) → IsRun token → prefix_len is_space (token ++ rest) ≡ 0
first_solid [] rest run = let h = run.some in absurd (omega arith)
first_solid (b ∷ bs) rest run = let e : nat_eq b 32 ≡ false = no_of (nat_eq b 32) (first_so (is_solid b) (list_all is_solid bs) run.solid) in rw e refl

token_solid : (token rest : List ℕ) → IsToken token → prefix_len is_space (token ++ rest) ≡ 0
token_solid token rest (inl run) = first_solid token rest run
token_solid token rest (inr text) = let t = text.1 in ap (λ l. prefix_len is_space (l ++ rest)) t.spelled

pub skip_gap : (gap l : List ℕ) → list_all is_space gap ≡ true → prefix_len is_space l ≡ 0 → skipped (gap ++ l) ≡ l
unfolding skipped
skip_gap gap l all zero_len = ap (λ n. drop n (gap ++ l)) (prefix_run is_space gap l all zero_len) ∙ drop-append_seam gap l

pub skipped_next : (token bytes rest : List ℕ) → Next token bytes rest → skipped bytes ≡ token ++ rest
skipped_next token bytes rest next = ap skipped next.spelled ∙ skip_gap next.gap (token ++ rest) next.spaces (token_solid token rest next.is)

ended_len : (rest : List ℕ) → is_ended rest ≡ true → prefix_len is_solid rest ≡ 0
ended_len [] e = refl
ended_len (b ∷ bs) e = rw e refl

pub run_word : (token rest : List ℕ) → IsRun token → is_ended rest ≡ true → word_of (token ++ rest) ≡ token
unfolding word_of
run_word token rest run ended = ap (λ n. take n (token ++ rest)) (prefix_run is_solid token rest run.solid (ended_len rest ended)) ∙ take-append_seam token rest

pub run_behind : (token rest : List ℕ) → IsRun token → is_ended rest ≡ true → behind (token ++ rest) ≡ rest
unfolding behind
run_behind token rest run ended = ap (λ n. drop n (token ++ rest)) (prefix_run is_solid token rest run.solid (ended_len rest ended)) ∙ drop-append_seam token rest

quoted_text : (token text : List ℕ) → IsText token text → is_quoted token ≡ true
quoted_text token text t = ap is_quoted t.spelled

apart : (t : Bool) → t ≡ true → t ≡ false → ⊥
apart t e f = cc

-- a token that begins as a word does is one
pub run_of : (token : List ℕ) → IsToken token → IsStart token → IsRun token
run_of token (inl run) start = run
run_of token (inr text) start = absurd (apart (is_quoted token) (quoted_text token text.0 text.1) start.bare)

-- the next token as a reader sees it, where it is a word
pub next_is : (token bytes rest : List ℕ) → Next token bytes rest → IsStart token → (next_word bytes ≡ token) × (behind_next bytes ≡ rest)
next_is token bytes rest next start =
    let run = run_of token next.is start in
    let here = skipped_next token bytes rest next in
    (ap word_of here ∙ run_word token rest run next.ended, ap behind here ∙ run_behind token rest run next.ended)

pub front-append : (a b : List (List ℕ)) (bytes mid rest : List ℕ) → Front a bytes mid → Front b mid rest → Front (a ++ b) bytes rest
front-append [] b bytes mid rest f g = subst (λ l. Front b l rest) (sym f) g
front-append (t ∷ ts) b bytes mid rest f g = (f.0, f.1, front-append ts b f.0 mid rest f.2 g)

pub record Split (a b : List (List ℕ)) (bytes rest : List ℕ) : Type 0 where
  pub mid : List ℕ
  pub first : Front a bytes mid
  pub second : Front b mid rest

pub front-split : (a b : List (List ℕ)) (bytes rest : List ℕ) → Front (a ++ b) bytes rest → Split a b bytes rest
front-split [] b bytes rest f = record { mid = bytes; first = refl; second = f }
front-split (t ∷ ts) b bytes rest f =
    let more = front-split ts b f.0 rest f.2 in
    record { mid = more.mid; first = (f.0, f.1, more.first); second = more.second }
