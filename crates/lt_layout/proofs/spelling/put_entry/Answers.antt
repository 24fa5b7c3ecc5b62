use Rattle.std.proofs.Common.{ℕ, List, ◌++◌, ap, ◌∙◌}
use Rattle.std.specs.Int.{w32, w64, to_be_bytes}
use Rattle.lt_layout.specs.Spelling.{Entry, key_spelled, entry_spelled}
use Rattle.lt_layout.proofs.Spelled.{five_parts}
use Rattle.lt_layout.proofs.spelling.put_entry.Goals as goal

pub returns : goal.returns
returns c =
    let out = c.args.out.now.items in
    let e = c.entry.inside in
    five_parts c.args.out.now.items (to_be_bytes w64 c.entry.inside.offset) (to_be_bytes w32 c.entry.inside.len) (to_be_bytes w32 c.entry.inside.count) (key_spelled c.entry.inside.first) (key_spelled c.entry.inside.last)
    c.put_u64.new.out.items c.put_u32.new.out.items c.put_u32-2.new.out.items c.put_key.new.out.items c.put_key-2.new.out.items
    c.in_ok-put_u64.ensures.ok c.in_ok-put_u32.ensures.ok c.in_ok-put_u32-2.ensures.ok
    (c.in_ok-put_key.ensures ∙ ap (λ (x : List ℕ). c.put_u32-2.new.out.items ++ key_spelled x) c.as_slice.ensures)
    (c.in_ok-put_key-2.ensures ∙ ap (λ (x : List ℕ). c.put_key.new.out.items ++ key_spelled x) c.as_slice-2.ensures)
    ∙ ap (λ (v : Entry). out ++ entry_spelled v) c.entry.view_is
