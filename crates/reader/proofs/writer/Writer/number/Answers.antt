use Rattle.std.proofs.Common.{◌≡◌, ℕ, List, decimal, ap, ◌∙◌, arith}
use Rattle.std.proofs.lemmas.Fmt.{length-decimal-le}
use Rattle.reader.specs.Pages.{Page, on_page, put_bytes}
use Rattle.reader.proofs.Pages.{put_count}
use Rattle.reader.proofs.writer.Writer.number.Goals as goal

pub returns-clause-short : goal.returns-clause-short
returns-clause-short c =
    let g = on_page c.args.self.now in
    let n = c.args.n in
    let e : on_page c.bytes.new.self ≡ put_bytes (decimal n) (on_page c.args.self.now) =
    c.bytes.ensures ∙ ap (λ (l : List ℕ). put_bytes l (on_page c.args.self.now)) (c.as_bytes.ensures.value ∙ c.format.ensures.text) in
    omega (arith, ap (λ (p : Page). p.written) e, put_count (decimal n) g, length-decimal-le 20 n (omega arith) (omega arith) (omega (arith, c.ranges.n.fits)))
