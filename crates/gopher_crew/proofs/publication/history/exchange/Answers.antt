use Rattle.std.proofs.Common.{sym, ◌∙◌, ap}
use Rattle.gopher_catalogue.specs.EventOf.{event_data}
use Rattle.gopher_crew.proofs.Adding.{adds_moves}
use Rattle.gopher_crew.proofs.publication.history.exchange.Goals as goal

pub compare_exchange-found-requires : goal.compare_exchange-found-requires
compare_exchange-found-requires c =
    let h = c.requires.word in
    let offer = c.plain-offer.ensures in
    let pen = c.no_pen-pen.ensures in (
      ap (λ w. w.tracked) h,
      sym (ap (λ w. w.book) h),
      pen.0 ∙ sym (ap (λ w. w.book) h),
      offer.0,
      rw (ap (λ w. w.key) h, pen.1, offer.1, offer.3) (adds_moves c.args.seen.now.log (event_data c.args.event.now, c.args.maker) c.from-old.result (sym c.requires.len ∙ sym c.from-old.ensures)),
    )
