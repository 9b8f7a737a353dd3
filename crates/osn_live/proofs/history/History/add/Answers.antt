use Rattle.std.proofs.Common.{◌≡◌, ap, sym, ◌∙◌, length}
use Rattle.osn_live.proofs.BatchAddition.{add_moves}
use Rattle.osn_live.proofs.history.History.add.Goals as goal

pub compare_exchange-before-requires : goal.compare_exchange-before-requires
compare_exchange-before-requires c =
    let h = c.self.invariant in
    let offer = c.plain-offer.ensures in
    let pen = c.no_pen-pen.ensures in
    let again = c.again-seen.ensures in
    let count = c.certificate.inside.count in
    let log = c.again-seen.result.log in
    let book_is : c.certificate.inside.seen.book ≡ c.self.inside.head.book =
    ap (λ k. k.book) c.certificate.view_is ∙ c.requires.book ∙ sym c.self.view_is in
    let book = ap (λ s. s.book) again ∙ book_is in
    let long : length log ≡ count =
    ap (λ s. length s.log) again ∙ sym c.certificate.invariant in (
      ap (λ w. w.tracked) h,
      book,
      pen.0 ∙ book,
      offer.0,
      rw (ap (λ w. w.key) h, pen.1, offer.1, offer.3)
          (add_moves log c.args.batch.now.items count long),
    )
