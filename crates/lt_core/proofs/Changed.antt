-- A change of the schema: published, refused or failed.
use Rattle.std.proofs.Common.{◌≡◌, ℕ, ◌+◌, ◌-◌, ◌^◌, ◌<◌, Bool, [], ◌∷◌, None, Ok, Err, min, refl, sym, ◌∙◌, ap, subst}
use Rattle.lt_schema.specs.declared.change.Change.{Change}
use Rattle.lt_schema.specs.Versions.{SchemaVersions, newest, alter_refusal}
use Rattle.lt_desc.specs.Shape.{StoneShape}
use Rattle.lt_desc.specs.Lawful.{IsStone}
use Rattle.lt_commit.specs.declared.errors.CommitError.{CommitError}
use Rattle.lt_commit.specs.declared.errors.CommitError.TheVariants as commit
use Rattle.lt_model.specs.History.{schema_entry}
use Rattle.lt_trace.specs.Elements.{Story, entry, grown}
use Rattle.lt_state.specs.State.{Core}
use Rattle.lt_state.specs.Stands.{StandsFor}
use Rattle.lt_events.specs.Cores.{with_lent, with_change, changed_stone, with_schemas}
use Rattle.lt_events.proofs.Altering.{alter_stands, alter_fault_stands}
use Rattle.lt_events.proofs.Lending.{lend_stands}
use Rattle.lt_core.specs.Causes.{commit_refusal}
use Rattle.lt_core.specs.Adds.{alter_adds}
use Rattle.lt_core.specs.Published.{Publishes}
use Rattle.lt_core.proofs.Lists.{grown_by_none}
use Rattle.lt_core.proofs.Spending.{count_goes_on}

-- nothing was added
pub stands_still : (told : Bool) (c : Core) (s : Story) → StandsFor told c s → StandsFor told c (grown s [])
stands_still told c s stands = subst (λ (t : Story). StandsFor told c t) (sym (grown_by_none s)) stands

module _ (told : Bool) (old : Core) (change : Change) (stone : StoneShape) (mid : Core) (is : mid ≡ with_lent old mid.anchor) (stone_is : stone ≡ changed_stone old change)
    (admitted : alter_refusal (newest old.schemas) change ≡ None) (lawful : IsStone stone) (room : old.next_file < 2 ^ 62) where
  lawful_change : IsStone (changed_stone old change)
  lawful_change = subst IsStone stone_is lawful

  -- the change's stone was published
  pub changed_stands : (more : SchemaVersions) (k : ℕ) → Publishes told old.next_file stone old.anchor mid.anchor (Ok tt) → more ≡ with_change old.schemas change → k ≡ min (mid.count + 1) (2 ^ 64 - 1)
      → (s : Story) → StandsFor told old s → StandsFor told (record mid { schemas = more; count = k }) (grown s (entry (schema_entry change) ∷ []))
  changed_stands more k published more_is k_is s stands =
      let p : Publishes told old.next_file (changed_stone old change) old.anchor mid.anchor (Ok tt) = subst (λ (x : StoneShape). Publishes told old.next_file x old.anchor mid.anchor (Ok tt)) stone_is published in
      let all : StandsFor told (with_schemas old (with_change old.schemas change) mid.anchor) (grown s (entry (schema_entry change) ∷ [])) =
      alter_stands told old s change mid.anchor stands admitted lawful_change room p.was p.is p.ok p.any_moment p.ceiling p.lends in
      let count : mid.count ≡ old.count = ap (λ (c : Core). c.count) is in
      let counted : k ≡ old.count + 1 = count_goes_on told old s k stands (k_is ∙ ap (λ (n : ℕ). min (n + 1) (2 ^ 64 - 1)) count) in
      let same : record mid { schemas = more; count = k } ≡ with_schemas old (with_change old.schemas change) mid.anchor =
      ap (λ (c : Core). record c { schemas = more; count = k }) is ∙ (λ i. record old { schemas = more_is i; next_file = old.next_file + 1; anchor = mid.anchor; count = counted i }) in
      subst (λ (c : Core). StandsFor told c (grown s (entry (schema_entry change) ∷ []))) (sym same) all

  pub changed_stands_from : (c : Core) → c ≡ mid → (more : SchemaVersions) (k : ℕ) → Publishes told old.next_file stone old.anchor mid.anchor (Ok tt) → more ≡ with_change old.schemas change → k ≡ min (c.count + 1) (2 ^ 64 - 1)
      → (s : Story) → StandsFor told old s → StandsFor told (record c { schemas = more; count = k }) (grown s (entry (schema_entry change) ∷ []))
  changed_stands_from c same more k published more_is k_is s stands =
      subst (λ (x : Core). StandsFor told (record x { schemas = more; count = k }) (grown s (entry (schema_entry change) ∷ []))) (sym same)
      (changed_stands more k published more_is (k_is ∙ ap (λ (x : Core). min (x.count + 1) (2 ^ 64 - 1)) same) s stands)

  -- it was not
  pub failed_stands : (refused : CommitError) → Publishes told old.next_file stone old.anchor mid.anchor (Err refused)
      → (s : Story) → StandsFor told old s → StandsFor told mid (grown s (alter_adds old change (Err (commit_refusal refused))))
  failed_stands commit.Spent published s stands = absurd (published.never_spent refl)
  failed_stands commit.Fault published s stands =
      let p : Publishes told old.next_file (changed_stone old change) old.anchor mid.anchor (Err commit.Fault) = subst (λ (x : StoneShape). Publishes told old.next_file x old.anchor mid.anchor (Err commit.Fault)) stone_is published in
      stands_still told mid s (subst (λ (c : Core). StandsFor told c s) (sym is)
      (alter_fault_stands told old s change mid.anchor stands admitted lawful_change room p.was p.is (p.fault refl) p.any_moment p.readable p.ceiling p.lends))
  failed_stands commit.NoMemory published s stands =
      stands_still told mid s (subst (λ (c : Core). StandsFor told c s) (sym is)
      (lend_stands told old s mid.anchor stands published.was room (λ tells. published.only_lent tells refl) published.ceiling published.lends (published.no_memory refl)).0)
