use Rattle.std.proofs.Common.{◌<◌, ◌++◌, length, slice_get, sym, ap, ◌∙◌, arith}
use Rattle.gopher_bytes.proofs.PartLemmas.{end_le_limit, length-parts, parts-get, start_le_end}
use Rattle.gopher_bytes.proofs.byte_strings.ByteStrings.get.Goals as goal

pub start_at-start-requires : goal.start_at-start-requires
start_at-start-requires c =
    rw (c.deref.ensures.value, c.deref-2.ensures.value)
    (omega (arith, c.requires, ap length c.self.view_is, length-parts c.self.inside.bytes.items 0 (c.self.inside.low.items ++ c.self.inside.high.items)))

pub end_at-end-requires : goal.end_at-end-requires
end_at-end-requires c =
    rw (c.deref-3.ensures.value, c.deref-4.ensures.value)
    (omega (arith, c.requires, ap length c.self.view_is, length-parts c.self.inside.bytes.items 0 (c.self.inside.low.items ++ c.self.inside.high.items)))

pub between-requires-clause-forward : goal.between-requires-clause-forward
between-requires-clause-forward c =
    let ends = c.self.inside.low.items ++ c.self.inside.high.items in
    let within : c.args.index < length ends = omega (arith, c.requires, ap length c.self.view_is, length-parts c.self.inside.bytes.items 0 ends) in
    rw (c.start_at-start.ensures, c.end_at-end.ensures, c.deref.ensures.value, c.deref-2.ensures.value, c.deref-3.ensures.value, c.deref-4.ensures.value)
    (start_le_end 0 ends (length c.self.inside.bytes.items) c.args.index 0 c.self.invariant.chain within)

pub between-requires-clause-within : goal.between-requires-clause-within
between-requires-clause-within c =
    let ends = c.self.inside.low.items ++ c.self.inside.high.items in
    let within : c.args.index < length ends = omega (arith, c.requires, ap length c.self.view_is, length-parts c.self.inside.bytes.items 0 ends) in
    rw (c.end_at-end.ensures, c.deref-3.ensures.value, c.deref-4.ensures.value, c.deref-5.ensures.value)
    (end_le_limit 0 ends (length c.self.inside.bytes.items) c.args.index 0 c.self.invariant.chain within)

pub returns : goal.returns
returns c =
    let ends = c.self.inside.low.items ++ c.self.inside.high.items in
    let within : c.args.index < length ends = omega (arith, c.requires, ap length c.self.view_is, length-parts c.self.inside.bytes.items 0 ends) in
    ap (λ l. slice_get l c.args.index) (sym c.self.view_is)
    ∙ rw (c.between.ensures, c.start_at-start.ensures, c.end_at-end.ensures, c.deref.ensures.value, c.deref-2.ensures.value, c.deref-3.ensures.value, c.deref-4.ensures.value, c.deref-5.ensures.value)
    (parts-get c.self.inside.bytes.items 0 ends c.args.index 0 within)
