-- A seat that is split off, and one that is joined into another, keep the rule.
use Rattle.std.proofs.Common.{◌≡◌, ◌≢◌, ◌⊎◌, ℕ, zero, suc, Bool, List, [], ◌∷◌, ◌++◌, length, set, refl, sym, ap, ◌∙◌, subst, ⊎_elim, inl, inr, arith, length-append, length-set, eq-eqb, ne_eqb, None}
use Rattle.std.specs.Prelude.{Option, slice_index, slice_set, if◌then◌else◌, ◌==◌}
use mathlib.Core.Option as maybe
use mathlib.Core.Option.{some, none, some-ne-none, some-injective}
use mathlib.Core.List.{IsPrefix, map-append}
use mathlib.Core.Logic.{dite}
use native.Mathlib.Decide.{dec_le}
use lib.ListN.{get_elem?}
use Rattle.atomic_table.specs.Table.{State, Me, Act, keeps, Valid, carried_after, stepped, Allows, Splits, Joins, Final, Seen}
use Rattle.atomic_table.proofs.Lists.{set_again, set_else, at_set}
use Rattle.lt_turn.specs.declared.view.View.{View}
use Rattle.lt_turn.specs.declared.view.Role.{Role}
use Rattle.lt_turn.specs.declared.view.Role.TheVariants.{Vacant, Note, Idle, Holding, Level, Shut, Spent}
use Rattle.lt_turn.specs.Lists.{of, Every, Differ, numbers}
use Rattle.lt_turn.specs.Rule.{Desk, IsOpen, spent, note, newcomer, joined, learned, is_numbered, learns}
use Rattle.lt_turn.proofs.ByRole.{Sits, FitsAs, HomeFits, ByRole}
use Rattle.lt_turn.proofs.Steps.{any, at_bound}
use Rattle.lt_turn.proofs.Steps as step
use Rattle.lt_turn.proofs.Lists.{prefix_self, prefix_shorter, every_append, every_more, every_number, between, none_before, differ_append}
use Rattle.lt_turn.proofs.Keeps.{whole_set, whole_longer, whole_joined, all_seen, seen_whole, fit_set, desk_stays, desk_longer}

at_end : {A : Type 0} (l : List A) (a b : A) (j : ℕ) → get_elem? (l ++ a ∷ []) j ≡ some b → (get_elem? l j ≡ some b) ⊎ ((j ≡ length l) × (a ≡ b))
at_end [] a b zero e = inr (refl, some-injective a b e)
at_end [] a b (suc j) e = absurd (some-ne-none b (sym e))
at_end (x ∷ xs) a b zero e = inl e
at_end (x ∷ xs) a b (suc j) e = ⊎_elim (λ h. inl h) (λ h. inr (ap suc h.0, h.1)) (at_end xs a b j e)

module _ {H T X : Type 0} (stands : T → List X → Type 0) (value : H → Option T) (book : H → ℕ) where
  abbrev St : Type 0
  St = State (Option H) (View X)

  abbrev M : Type 0
  M = Me (Option H) (View X)

  abbrev Rule : St → Type 0
  Rule = ByRole stands value book

  pub splits_view : (id : ℕ) (v : View X) → v.role ≡ Idle → Splits Rule id v v (note v)
  splits_view id v is s k at =
      let f = step.fits stands value book s k id v Idle at is in
      let n : ℕ = length s.views in
      let new = k.fresh n (omega arith) in
      subst (λ (vs : List (View X)). Rule record { words = s.words; homes = s.homes; views = vs ++ note v ∷ [] }) (sym (set_again s.views id v at)) record {
        log = k.log;
        desk = k.desk;
        owner = k.owner;
        lock = k.lock;
        home = k.home;
        words = k.words;
        homes = k.homes;
        lock_fits = k.lock_fits;
        desk_fits = desk_longer k.desk s.views (note v ∷ []) k.desk_fits;
        home_fits = k.home_fits;
        views_fit = λ j u e. ⊎_elim
            (λ (was : get_elem? s.views j ≡ some u). k.views_fit j u was)
            (λ (t : (j ≡ length s.views) × (note v ≡ u)). subst (λ (z : ℕ × View X). FitsAs z.1.role k.desk k.log k.owner z.0 z.1) (λ i. (sym t.0 i, t.1 i)) (
              f.0,
              record {
                seen = f.1.seen;
                told = (k.log, refl);
                opening = f.1.opening;
                own = new.0;
                own_seen = none_before (suc n) v.seen k.log f.1.seen new.0;
                ended = tt;
                apart = (((λ q. omega arith), tt), (tt, tt));
                owner_is = new.1;
              },
            ))
            (at_end s.views (note v) u j e);
        whole = whole_longer k.log s.views (note v ∷ []) k.whole;
        fresh = λ i le. k.fresh i (let l = length-append s.views (note v ∷ []) in omega arith);
      }

  pub numbers_seat : (slots id : ℕ) (m : M) → m.0.role ≡ Note → Allows Rule slots id m 0 (λ n. n) (is_numbered any m)
  numbers_seat slots id m is s k len at small =
      let f = step.fits stands value book s k id m.0 Note at is in
      let w : View X = newcomer (suc id) m.0 in (
        w,
        keeps,
        tt,
        record {
          log = k.log;
          desk = k.desk;
          owner = k.owner;
          lock = k.lock;
          home = k.home;
          words = ap (λ (ws : List ℕ). slice_set ws 0 (slice_index ws 0)) k.words;
          homes = k.homes;
          lock_fits = k.lock_fits;
          desk_fits = desk_stays k.desk s.views id m.0 w at (λ q. absurd (cc (is, q))) (λ q. absurd (cc (is, q))) (λ q. absurd (cc (is, q))) (λ q. absurd (cc (is, q))) k.desk_fits;
          home_fits = k.home_fits;
          views_fit = fit_set s.views id w k.desk k.log k.owner (λ i v ne e. k.views_fit i v e) (
            f.0,
            record { seen = f.1.seen; told = f.1.told; opening = f.1.opening; own = f.1.own; own_seen = f.1.own_seen; ended = f.1.ended; apart = f.1.apart; owner_is = f.1.owner_is },
            refl,
          );
          whole = whole_set k.log s.views id m.0 w at (λ t. t) k.whole;
          fresh = step.freshly stands value book s k id w;
        },
        ((suc id, refl), refl),
      )

  learned_fits : (slots id : ℕ) (m : M) (list : List (ℕ × X)) (s : St) (k : Rule s) → m.0.role ≡ Idle → get_elem? s.views id ≡ some m.0
      → IsPrefix m.0.seen list → IsPrefix m.0.told list → IsPrefix list k.log → (list ≡ m.0.seen) ⊎ (list ≡ m.0.told)
      → (w : View X) × (a : Act (Option H)) × Valid s.homes m.1 a × Rule (stepped s 0 (slice_index s.words 0) id m.1 w a) × learns any m (slice_index s.words 0) (w, carried_after m.1 a)
  learned_fits slots id m list s k is at p q r which =
      let f = step.fits stands value book s k id m.0 Idle at is in
      let w : View X = learned list m.0 in
      let opening : of 0 list ≡ of 0 k.log = between 0 m.0.seen list k.log p r f.1.opening in (
        w,
        keeps,
        tt,
        record {
          log = k.log;
          desk = k.desk;
          owner = k.owner;
          lock = k.lock;
          home = k.home;
          words = ap (λ (ws : List ℕ). slice_set ws 0 (slice_index ws 0)) k.words;
          homes = k.homes;
          lock_fits = k.lock_fits;
          desk_fits = desk_stays k.desk s.views id m.0 w at (λ q. absurd (cc (is, q))) (λ q. absurd (cc (is, q))) (λ q. absurd (cc (is, q))) (λ q. absurd (cc (is, q))) k.desk_fits;
          home_fits = k.home_fits;
          views_fit = fit_set s.views id w k.desk k.log k.owner (λ i v ne e. k.views_fit i v e) (subst (λ (r : Role). FitsAs r k.desk k.log k.owner id w) (sym is) (
            f.0,
            record {
              seen = r;
              told = (k.log, refl);
              opening = opening;
              own = f.1.own;
              own_seen = between (suc id) m.0.seen list k.log p r (f.1.own_seen ∙ sym f.1.own) ∙ f.1.own;
              ended = f.1.ended;
              apart = f.1.apart;
              owner_is = f.1.owner_is;
            },
            f.2,
          ));
          whole = whole_set k.log s.views id m.0 w at (λ t. inl (⊎_elim (λ (e : m.0.seen ≡ k.log). all_seen m.0.seen list k.log e p r) (λ (e : m.0.told ≡ k.log). all_seen m.0.told list k.log e q r) t)) k.whole;
          fresh = step.freshly stands value book s k id w;
        },
        ((list, refl, p, q, which, opening ∙ sym f.1.opening), refl),
      )

  pub learns_list : (slots id : ℕ) (m : M) → m.0.role ≡ Idle → Allows Rule slots id m 0 (λ n. n) (learns any m)
  learns_list slots id m is s k len at small =
      let f = step.fits stands value book s k id m.0 Idle at is in
      dite (dec_le (length m.0.seen) (length m.0.told))
      (λ le. learned_fits slots id m m.0.told s k is at (prefix_shorter m.0.seen m.0.told k.log f.1.seen f.1.told le) (prefix_self m.0.told) f.1.told (inr refl))
      (λ more. learned_fits slots id m m.0.seen s k is at (prefix_self m.0.seen) (prefix_shorter m.0.told m.0.seen k.log f.1.told f.1.seen (omega arith)) f.1.seen (inl refl))

-- what was accounted for at one seat goes over to another
moved : ℕ → ℕ → ℕ → ℕ
moved from to n = if n == from then to else n

moved_hit : (from to n : ℕ) → n ≡ from → moved from to n ≡ to
unfolding moved
moved_hit from to n e = ap (λ (b : Bool). if b then to else n) (eq-eqb n from e)

moved_miss : (from to n : ℕ) → n ≢ from → moved from to n ≡ n
unfolding moved
moved_miss from to n ne = ap (λ (b : Bool). if b then to else n) (ne_eqb n from ne)

module _ {X : Type 0} where
  sits_moved : (log : List (ℕ × X)) (owner : ℕ → ℕ) (from to i : ℕ) (v : View X) → i ≢ from → Sits log owner i v → Sits log (λ n. moved from to (owner n)) i v
  sits_moved log owner from to i v ne s = record {
    seen = s.seen;
    told = s.told;
    opening = s.opening;
    own = s.own;
    own_seen = s.own_seen;
    ended = every_more (λ (e : ℕ × List X). (of e.0 log ≡ e.1) × (owner e.0 ≡ i)) (λ (e : ℕ × List X). (of e.0 log ≡ e.1) × (moved from to (owner e.0) ≡ i)) v.ended
        (λ e h. (h.0, ap (moved from to) h.1 ∙ moved_miss from to i ne)) s.ended;
    apart = s.apart;
    owner_is = ap (moved from to) s.owner_is ∙ moved_miss from to i ne;
  }

  -- the rule's word on the others
  fits_moved : (r : Role) (desk : Desk) (log : List (ℕ × X)) (owner : ℕ → ℕ) (from to i : ℕ) (v : View X) → IsOpen desk → i ≢ from → FitsAs r desk log owner i v
      → FitsAs r desk log (λ n. moved from to (owner n)) i v
  fits_moved Vacant desk log owner from to i v o ne f = absurd (subst IsOpen f.0 o)
  fits_moved Note desk log owner from to i v o ne f = (f.0, sits_moved log owner from to i v ne f.1)
  fits_moved Idle desk log owner from to i v o ne f = (f.0, sits_moved log owner from to i v ne f.1, f.2)
  fits_moved Holding desk log owner from to i v o ne f = (f.0, sits_moved log owner from to i v ne f.1, f.2)
  fits_moved Level desk log owner from to i v o ne f = (f.0, sits_moved log owner from to i v ne f.1, f.2, f.3)
  fits_moved Shut desk log owner from to i v o ne f = (f.0, sits_moved log owner from to i v ne f.1, f.2)
  fits_moved Spent desk log owner from to i v o ne f = tt

  owners : (log : List (ℕ × X)) (owner : ℕ → ℕ) (i : ℕ) (es : List (ℕ × List X)) → Every (λ e. (of e.0 log ≡ e.1) × (owner e.0 ≡ i)) es → Every (λ n. owner n ≡ i) (numbers es)
  owners log owner i es h = every_number (λ n. owner n ≡ i) es (every_more (λ (e : ℕ × List X). (of e.0 log ≡ e.1) × (owner e.0 ≡ i)) (λ (e : ℕ × List X). owner e.0 ≡ i) es (λ e g. g.1) h)

  sits_joined : (log : List (ℕ × X)) (owner : ℕ → ℕ) (id other : ℕ) (v w : View X) → other ≢ id → w.number ≡ suc other → Sits log owner id v → Sits log owner other w
      → Sits log (λ n. moved other id (owner n)) id (joined v w)
  sits_joined log owner id other v w ne number a b =
      let owner' : ℕ → ℕ = λ n. moved other id (owner n) in
      let mine : (n : ℕ) → owner n ≡ id → owner' n ≡ id = λ n e. ap (moved other id) e ∙ moved_miss other id id (λ q. ne (sym q)) in
      let theirs : (n : ℕ) → owner n ≡ other → owner' n ≡ id = λ n e. ap (moved other id) e ∙ moved_hit other id other refl in
      let own : owner w.number ≡ other = ap owner number ∙ b.owner_is in
      let apart : Differ (0 ∷ w.number ∷ numbers w.ended) = subst (λ (n : ℕ). Differ (0 ∷ n ∷ numbers w.ended)) (sym number) b.apart in
      let all : Differ ((suc id ∷ numbers v.ended) ++ (w.number ∷ numbers w.ended)) =
      differ_append owner id other (λ q. ne (sym q)) (suc id ∷ numbers v.ended) (w.number ∷ numbers w.ended) a.apart.1 apart.1 (a.owner_is, owners log owner id v.ended a.ended) (own, owners log owner other w.ended b.ended) in
      let none : Every (λ n. n ≢ 0) ((suc id ∷ numbers v.ended) ++ (w.number ∷ numbers w.ended)) =
      every_append (λ n. n ≢ 0) (suc id ∷ numbers v.ended) (w.number ∷ numbers w.ended) a.apart.0 apart.0 in
      record {
        seen = a.seen;
        told = b.seen;
        opening = a.opening;
        own = a.own;
        own_seen = a.own_seen;
        ended = every_append (λ (e : ℕ × List X). (of e.0 log ≡ e.1) × (owner' e.0 ≡ id)) v.ended ((w.number, w.mine) ∷ w.ended)
            (every_more (λ (e : ℕ × List X). (of e.0 log ≡ e.1) × (owner e.0 ≡ id)) (λ (e : ℕ × List X). (of e.0 log ≡ e.1) × (owner' e.0 ≡ id)) v.ended (λ e h. (h.0, mine e.0 h.1)) a.ended) (
              (ap (λ (n : ℕ). of n log) number ∙ b.own, theirs w.number own),
              every_more (λ (e : ℕ × List X). (of e.0 log ≡ e.1) × (owner e.0 ≡ other)) (λ (e : ℕ × List X). (of e.0 log ≡ e.1) × (owner' e.0 ≡ id)) w.ended (λ e h. (h.0, theirs e.0 h.1)) b.ended,
            );
        apart = subst (λ (ns : List ℕ). Differ (0 ∷ suc id ∷ ns)) (sym (map-append (λ (e : ℕ × List X). e.0) v.ended ((w.number, w.mine) ∷ w.ended))) (none, all);
        owner_is = mine (suc id) a.owner_is;
      }

module _ {H T X : Type 0} (stands : T → List X → Type 0) (value : H → Option T) (book : H → ℕ) where
  pub joins_views : (id : ℕ) (v : View X) (other : ℕ) (w : View X) → v.role ≡ Idle → w.role ≡ Idle → v.told ≡ [] → w.told ≡ [] → Joins (ByRole stands value book) id v other w (joined v w) spent
  joins_views id v other w is was told told_there s k at apart there =
      let both : View X = joined v w in
      let at_other : get_elem? s.views other ≡ some w = sym (set_else s.views id other both apart) ∙ there in
      let f = step.fits stands value book s k id v Idle at is in
      let g = step.fits stands value book s k other w Idle at_other was in
      let owner' : ℕ → ℕ = λ n. moved other id (k.owner n) in
      let bound = at_bound s.views other w at_other in
      record {
        log = k.log;
        desk = k.desk;
        owner = owner';
        lock = k.lock;
        home = k.home;
        words = k.words;
        homes = k.homes;
        lock_fits = k.lock_fits;
        desk_fits = desk_stays k.desk (set s.views id both) other w spent there (λ q. absurd (cc (was, q))) (λ q. absurd (cc (was, q))) (λ q. absurd (cc (was, q))) (λ q. absurd (cc (was, q)))
            (desk_stays k.desk s.views id v both at (λ q. absurd (cc (is, q))) (λ q. absurd (cc (is, q))) (λ q. absurd (cc (is, q))) (λ q. absurd (cc (is, q))) k.desk_fits);
        home_fits = k.home_fits;
        views_fit = fit_set (set s.views id both) other spent k.desk k.log owner'
            (λ i u ne e. ⊎_elim
            (λ (t : (i ≡ id) × (both ≡ u)). subst (λ (z : ℕ × View X). FitsAs z.1.role k.desk k.log owner' z.0 z.1) (λ j. (sym t.0 j, t.1 j))
            (subst (λ (r : Role). FitsAs r k.desk k.log owner' id both) (sym is) (f.0, sits_joined k.log k.owner id other v w apart g.2 f.1 g.1, f.2)))
            (λ (t : (i ≢ id) × (get_elem? s.views i ≡ some u)). fits_moved u.role k.desk k.log k.owner other id i u f.0 ne (k.views_fit i u t.1))
            (at_set s.views id i both u e))
            tt;
        whole = whole_joined k.log s.views id other v w at at_other apart (seen_whole k.log v told f.1.seen) (seen_whole k.log w told_there g.1.seen) k.whole;
        fresh = λ i le.
            let l = length-set (set s.views id both) other spent in
            let l' = length-set s.views id both in
            let h = k.fresh i (omega arith) in
            (h.0, ap (moved other id) h.1 ∙ moved_miss other id i (λ q. omega arith));
      }

  -- a turn that is shut has nothing in its slot
  pub closes_empty : (id : ℕ) (v : View X) (ws : List ℕ) (xs : List (Option H)) → v.role ≡ Shut → Final (Seen (ByRole stands value book) id v) ws xs → get_elem? xs 0 ≡ some None
  closes_empty id v ws xs is end =
      let s = end.0 in
      let k = end.1.0 in
      let f = step.fits stands value book s k id v Shut end.1.1 is in
      let h : k.home ≡ some None = subst (λ (d : Desk). HomeFits stands value book d k.log k.home) f.0 k.home_fits in
      end.4 0 None (ap (λ (hs : List (maybe.Option (Option H))). get_elem? hs 0) k.homes ∙ ap some h)
