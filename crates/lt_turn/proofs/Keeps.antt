-- What a step of one seat leaves as it was: the views of all others.
use Rattle.std.proofs.Common.{◌≡◌, ◌≢◌, ◌⊎◌, ℕ, zero, suc, List, [], ◌∷◌, ◌++◌, set, refl, sym, ap, ◌∙◌, append-nil, subst, ⊎_elim, inl, inr, arith}
use mathlib.Core.List.{IsPrefix}
use mathlib.Core.Option.{some, some-ne-none, some-injective}
use lib.ListN.{get_elem?}
use Rattle.atomic_table.proofs.Lists.{at_set, set_again, set_else, at_longer}
use Rattle.lt_turn.specs.declared.view.View.{View}
use Rattle.lt_turn.specs.declared.view.Role.{Role}
use Rattle.lt_turn.specs.declared.view.Role.TheVariants.{Vacant, Note, Idle, Holding, Level, Shut, Spent}
use Rattle.lt_turn.specs.Lists.{numbered, of}
use Rattle.lt_turn.specs.Rule.{Desk, free, held, level, vacant, shut, IsOpen, Has, DeskFits, KnowsAll, joined, spent}
use Rattle.lt_turn.proofs.ByRole.{Sits, FitsAs, Whole}
use Rattle.lt_turn.proofs.Lists.{prefix_trans, every_more, of_behind, nil_left, nil_right}

-- the lock is free, or this seat's
abbrev pub By : Desk → ℕ → Type 0
By free id = Unit {0}
By (held i) id = i ≡ id
By (level i) id = i ≡ id
By (vacant i) id = ⊥
By (shut i) id = i ≡ id

module _ {X : Type 0} where
  -- what the rule says of a view that has not got the lock
  abbrev pub Bystands : Role → List (ℕ × X) → (ℕ → ℕ) → ℕ → View X → Type 0
  Bystands Vacant log owner i v = ⊥
  Bystands Note log owner i v = Sits log owner i v
  Bystands Idle log owner i v = Sits log owner i v × (v.number ≡ suc i)
  Bystands Holding log owner i v = ⊥
  Bystands Level log owner i v = ⊥
  Bystands Shut log owner i v = ⊥
  Bystands Spent log owner i v = Unit {0}

  pub stands_by : (r : Role) (desk : Desk) (log : List (ℕ × X)) (owner : ℕ → ℕ) (i id : ℕ) (v : View X) → By desk id → i ≢ id → FitsAs r desk log owner i v → Bystands r log owner i v
  stands_by Vacant desk log owner i id v by ne f = subst (λ (d : Desk). By d id) f.0 by
  stands_by Note desk log owner i id v by ne f = f.1
  stands_by Idle desk log owner i id v by ne f = (f.1, f.2)
  stands_by Holding desk log owner i id v by ne f = absurd (ne (subst (λ (d : Desk). By d id) f.0 by))
  stands_by Level desk log owner i id v by ne f = absurd (ne (subst (λ (d : Desk). By d id) f.0 by))
  stands_by Shut desk log owner i id v by ne f = absurd (ne (subst (λ (d : Desk). By d id) f.0 by))
  stands_by Spent desk log owner i id v by ne f = tt

  pub fits_again : (r : Role) (desk : Desk) (log : List (ℕ × X)) (owner : ℕ → ℕ) (i : ℕ) (v : View X) → IsOpen desk → Bystands r log owner i v → FitsAs r desk log owner i v
  fits_again Vacant desk log owner i v o b = absurd b
  fits_again Note desk log owner i v o b = (o, b)
  fits_again Idle desk log owner i v o b = (o, b.0, b.1)
  fits_again Holding desk log owner i v o b = absurd b
  fits_again Level desk log owner i v o b = absurd b
  fits_again Shut desk log owner i v o b = absurd b
  fits_again Spent desk log owner i v o b = tt

  -- a change of log and owners that keeps what the rule says of a view in use
  pub bystands : (r : Role) (log log' : List (ℕ × X)) (owner owner' : ℕ → ℕ) (i : ℕ) (v : View X) → (Sits log owner i v → Sits log' owner' i v) → Bystands r log owner i v → Bystands r log' owner' i v
  bystands Vacant log log' owner owner' i v f b = b
  bystands Note log log' owner owner' i v f b = f b
  bystands Idle log log' owner owner' i v f b = (f b.0, b.1)
  bystands Holding log log' owner owner' i v f b = b
  bystands Level log log' owner owner' i v f b = b
  bystands Shut log log' owner owner' i v f b = b
  bystands Spent log log' owner owner' i v f b = b

  abbrev pub Fit : List (View X) → Desk → List (ℕ × X) → (ℕ → ℕ) → Type 0
  Fit views desk log owner = (i : ℕ) (v : View X) → get_elem? views i ≡ some v → FitsAs v.role desk log owner i v

  -- the views after one has changed
  pub fit_set : (views : List (View X)) (id : ℕ) (w : View X) (desk : Desk) (log : List (ℕ × X)) (owner : ℕ → ℕ)
      → ((i : ℕ) (v : View X) → i ≢ id → get_elem? views i ≡ some v → FitsAs v.role desk log owner i v) → FitsAs w.role desk log owner id w → Fit (set views id w) desk log owner
  fit_set views id w desk log owner others mine j u e =
      ⊎_elim
      (λ (t : (j ≡ id) × (w ≡ u)). subst (λ (z : ℕ × View X). FitsAs z.1.role desk log owner z.0 z.1) (λ i. (sym t.0 i, t.1 i)) mine)
      (λ (t : (j ≢ id) × (get_elem? views j ≡ some u)). others j u t.0 t.1)
      (at_set views id j w u e)

  -- the others, where the seat that steps has the lock or it is free
  pub others_fit : (views : List (View X)) (id : ℕ) (desk desk' : Desk) (log log' : List (ℕ × X)) (owner owner' : ℕ → ℕ) → Fit views desk log owner → By desk id → IsOpen desk'
      → ((i : ℕ) (v : View X) → i ≢ id → Sits log owner i v → Sits log' owner' i v)
      → (i : ℕ) (v : View X) → i ≢ id → get_elem? views i ≡ some v → FitsAs v.role desk' log' owner' i v
  others_fit views id desk desk' log log' owner owner' fit by o change i v ne at =
      fits_again v.role desk' log' owner' i v o (bystands v.role log log' owner owner' i v (change i v ne) (stands_by v.role desk log owner i id v by ne (fit i v at)))

  -- a view in use, where entries of another seat come behind
  pub sits_longer : (log : List (ℕ × X)) (owner : ℕ → ℕ) (id : ℕ) (es : List X) (i : ℕ) (v : View X) → owner (suc id) ≡ id → i ≢ id → Sits log owner i v → Sits (log ++ numbered (suc id) es) owner i v
  sits_longer log owner id es i v mine ne s = record {
    seen = prefix_trans v.seen log (log ++ numbered (suc id) es) s.seen (numbered (suc id) es, refl);
    told = prefix_trans v.told log (log ++ numbered (suc id) es) s.told (numbered (suc id) es, refl);
    opening = s.opening ∙ sym (of_behind 0 (suc id) log es (λ e. omega arith));
    own = of_behind (suc i) (suc id) log es (λ e. ne (omega arith)) ∙ s.own;
    own_seen = s.own_seen;
    ended = every_more (λ (e : ℕ × List X). (of e.0 log ≡ e.1) × (owner e.0 ≡ i)) (λ (e : ℕ × List X). (of e.0 (log ++ numbered (suc id) es) ≡ e.1) × (owner e.0 ≡ i)) v.ended
        (λ e h. (of_behind e.0 (suc id) log es (λ same. ne (sym h.1 ∙ (ap owner (sym same) ∙ mine))) ∙ h.0, h.1)) s.ended;
    apart = s.apart;
    owner_is = s.owner_is;
  }

  -- the views, where one that has no lock changes, or the one that has it
  pub at_self : (views : List (View X)) (id : ℕ) (v w : View X) → get_elem? views id ≡ some v → get_elem? (set views id w) id ≡ some w
  at_self [] id v w e = absurd (some-ne-none v (sym e))
  at_self (x ∷ xs) zero v w e = refl
  at_self (x ∷ xs) (suc id) v w e = at_self xs id v w e

  pub has_set : (views : List (View X)) (id : ℕ) (r : Role) (v w : View X) → get_elem? views id ≡ some v → w.role ≡ r → Has (set views id w) id r
  has_set views id r v w at is = (w, at_self views id v w at, is)

  has_other : (views : List (View X)) (id i : ℕ) (r : Role) (v w : View X) → get_elem? views id ≡ some v → v.role ≢ r → Has views i r → Has (set views id w) i r
  has_other views id i r v w at apart h =
      (h.0, set_else views id i w (λ same. apart (ap (λ (u : View X). u.role) (some-injective v h.0 (sym at ∙ (ap (get_elem? views) (sym same) ∙ h.1))) ∙ h.2)) ∙ h.1, h.2)

  -- who has the lock is there still, where another view changes
  pub desk_stays : (desk : Desk) (views : List (View X)) (id : ℕ) (v w : View X) → get_elem? views id ≡ some v → v.role ≢ Holding → v.role ≢ Level → v.role ≢ Vacant → v.role ≢ Shut
      → DeskFits desk views → DeskFits desk (set views id w)
  desk_stays free views id v w at a b c d h = tt
  desk_stays (held i) views id v w at a b c d h = has_other views id i Holding v w at a h
  desk_stays (level i) views id v w at a b c d h = has_other views id i Level v w at b h
  desk_stays (vacant i) views id v w at a b c d h = has_other views id i Vacant v w at c h
  desk_stays (shut i) views id v w at a b c d h = has_other views id i Shut v w at d h

  has_longer : (views more : List (View X)) (i : ℕ) (r : Role) → Has views i r → Has (views ++ more) i r
  has_longer views more i r h = (h.0, at_longer views more i h.0 h.1, h.2)

  pub desk_longer : (desk : Desk) (views more : List (View X)) → DeskFits desk views → DeskFits desk (views ++ more)
  desk_longer free views more h = tt
  desk_longer (held i) views more h = has_longer views more i Holding h
  desk_longer (level i) views more h = has_longer views more i Level h
  desk_longer (vacant i) views more h = has_longer views more i Vacant h
  desk_longer (shut i) views more h = has_longer views more i Shut h

  -- the rule's word on an idle view
  pub idle_fits : (v : View X) (desk : Desk) (log : List (ℕ × X)) (owner : ℕ → ℕ) (i : ℕ) → v.role ≡ Idle → FitsAs v.role desk log owner i v → FitsAs Idle desk log owner i v
  idle_fits v desk log owner i is f = subst (λ (r : Role). FitsAs r desk log owner i v) is f

  pub not_role : (v : View X) (r q : Role) → v.role ≡ r → r ≢ q → v.role ≢ q
  not_role v r q is ne e = ne (sym is ∙ e)

  -- this view, or another
  one_of : (views : List (View X)) (id i : ℕ) (v u : View X) → get_elem? views id ≡ some v → get_elem? views i ≡ some u → ((i ≡ id) × (v ≡ u)) ⊎ ((i ≢ id) × (get_elem? views i ≡ some u))
  one_of views id i v u at there = at_set views id i v u (ap (λ (l : List (View X)). get_elem? l i) (set_again views id v at) ∙ there)

  pub whole_set : (log : List (ℕ × X)) (views : List (View X)) (id : ℕ) (v w : View X) → get_elem? views id ≡ some v → (KnowsAll log v → KnowsAll log w) → Whole log views → Whole log (set views id w)
  whole_set log views id v w at f h =
      ⊎_elim
      (λ (t : (h.0 ≡ id) × (v ≡ h.1)). (id, w, at_self views id v w at, f (subst (KnowsAll log) (sym t.1) h.3)))
      (λ (t : (h.0 ≢ id) × (get_elem? views h.0 ≡ some h.1)). (h.0, h.1, set_else views id h.0 w t.0 ∙ t.1, h.3))
      (one_of views id h.0 v h.1 at h.2)

  pub whole_longer : (log : List (ℕ × X)) (views more : List (View X)) → Whole log views → Whole log (views ++ more)
  whole_longer log views more h = (h.0, h.1, at_longer views more h.0 h.1 h.2, h.3)

  -- between what is the whole list and the list there is only the list
  pub all_seen : (a b log : List (ℕ × X)) → a ≡ log → IsPrefix a b → IsPrefix b log → b ≡ log
  all_seen a b log e p q =
      let none : q.0 ≡ [] = nil_right a p.0 q.0 (ap (λ (l : List (ℕ × X)). l ++ q.0) p.1 ∙ (q.1 ∙ sym e)) in
      sym (append-nil b) ∙ (ap (λ (l : List (ℕ × X)). b ++ l) (sym none) ∙ q.1)

  -- a view that was told of nothing
  pub seen_whole : (log : List (ℕ × X)) (v : View X) → v.told ≡ [] → IsPrefix v.seen log → KnowsAll log v → v.seen ≡ log
  seen_whole log v none p k =
      ⊎_elim (λ (e : v.seen ≡ log). e) (λ (e : v.told ≡ log). let z : log ≡ [] = sym e ∙ none in nil_left v.seen p.0 (p.1 ∙ z) ∙ sym z) k

  pub whole_joined : (log : List (ℕ × X)) (views : List (View X)) (id other : ℕ) (v w : View X) → get_elem? views id ≡ some v → get_elem? views other ≡ some w → other ≢ id
      → (KnowsAll log v → v.seen ≡ log) → (KnowsAll log w → w.seen ≡ log) → Whole log views → Whole log (set (set views id (joined v w)) other spent)
  whole_joined log views id other v w at there ne f g h =
      let both : View X = joined v w in
      let here : get_elem? (set (set views id both) other spent) id ≡ some both = set_else (set views id both) other id spent (λ q. ne (sym q)) ∙ at_self views id v both at in
      ⊎_elim
      (λ (t : (h.0 ≡ id) × (v ≡ h.1)). (id, both, here, inl (f (subst (KnowsAll log) (sym t.1) h.3))))
      (λ (t : (h.0 ≢ id) × (get_elem? views h.0 ≡ some h.1)). ⊎_elim
      (λ (u : (h.0 ≡ other) × (w ≡ h.1)). (id, both, here, inr (g (subst (KnowsAll log) (sym u.1) h.3))))
      (λ (u : (h.0 ≢ other) × (get_elem? views h.0 ≡ some h.1)). (h.0, h.1, set_else (set views id both) other h.0 spent u.0 ∙ (set_else views id h.0 both t.0 ∙ t.1), h.3))
      (one_of views other h.0 w h.1 there h.2))
      (one_of views id h.0 v h.1 at h.2)
