use Rattle.std.proofs.Common.{◌≡◌, ◌+◌, List, ℕ, [], ◌∷◌, ◌++◌, length, refl, ap, sym, subst, ◌∙◌}
use Rattle.lt_block.specs.Spelling.{spelling, IsBlock}
use Rattle.lt_layout.specs.Spelling.{Entry}
use Rattle.lt_tablet.specs.Writing.{Writing, IsCut}
use Rattle.lt_layout.proofs.Blocks.{entry_same}
use Rattle.lt_tablet.proofs.Cut.{cut_put}
use Rattle.lt_tablet.proofs.writer.TabletWriter.put_block.Goals as goal

pub returns-clause-put : goal.returns-clause-put
returns-clause-put g c = λ blocks recs h.
    let old : Writing = record { number = c.self.inside.file; pen = g.V.Device.pen_number c.self.inside.pen; period = c.self.inside.period; index = c.self.inside.index.items; offset = c.self.inside.offset; filling = c.self.inside.block; found = c.self.inside.survey; first = c.self.inside.first.items; last = c.self.inside.last.items; bytes = g.V.Device.pen_bytes c.self.inside.pen } in
    let new : Writing = record { number = c.self.inside.file; pen = g.V.Device.pen_number c.append.new.pen; period = c.self.inside.period; index = c.push.new.self.items; offset = c.in_ok-self-inside.field-0; filling = c.replace-block.new.dest; found = c.self.inside.survey; first = c.self.inside.first.items; last = c.self.inside.last.items; bytes = g.V.Device.pen_bytes c.append.new.pen } in
    let same : c.replace-block.result ≡ c.self.inside.block = c.replace-block.ensures.value in
    let spelled : c.finish-bytes.result ≡ spelling c.self.inside.block = c.finish-bytes.ensures.bytes ∙ ap spelling same in
    let block : IsBlock c.self.inside.block = subst IsBlock same c.finish-bytes.ensures.block in
    let len : c.len-len.result ≡ length (spelling c.self.inside.block) = c.len-len.ensures ∙ ap length spelled in
    let count : c.count-count.result ≡ length c.self.inside.block = c.count-count.ensures ∙ ap length same in
    let first : c.in_ok-first.first ≡ c.self.inside.first.items = c.in_ok-first.ensures ∙ c.as_slice.ensures.value in
    let last : c.in_ok-last.last ≡ c.self.inside.last.items = c.in_ok-last.ensures ∙ c.as_slice-2.ensures.value in
    let entry = entry_same c.self.inside.offset c.self.inside.offset c.len-len.result (length (spelling c.self.inside.block)) c.count-count.result (length c.self.inside.block) c.in_ok-first.first c.self.inside.first.items c.in_ok-last.last c.self.inside.last.items refl len count first last in
    subst (λ (w : Writing). IsCut g.V.Device.honest new (blocks ++ w.filling ∷ []) recs) c.self.view_is
    (cut_put g.V.Device.honest old new blocks recs (subst (λ (w : Writing). IsCut g.V.Device.honest w blocks recs) (sym c.self.view_is) h) block
    (record {
      pen = c.in_ok-append.ensures.number;
      number = refl;
      period = refl;
      index = c.in_ok-push.ensures.items ∙ ap (λ (e : Entry). c.self.inside.index.items ++ e ∷ []) entry;
      offset = c.in_ok-self-inside.ensures ∙ ap (λ (n : ℕ). c.self.inside.offset + n) len;
      filling = c.replace-block.ensures.after ∙ c.new.ensures;
      found = refl;
      last = refl;
      bytes = λ honest. c.in_ok-append.ensures.written honest ∙ ap (λ (x : List ℕ). g.V.Device.pen_bytes c.self.inside.pen ++ x) (c.as_slice-3.ensures ∙ spelled);
    }))
