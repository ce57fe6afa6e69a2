use Rattle.std.proofs.Common.{rules, ◌≡◌, ◌+◌, ◌∷◌, drop, Ok, sym, subst}
use Rattle.std.proofs.lemmas.Result.{err_from_is_err_and, MatchResult-at_ok, MatchResult-at_err}
use Rattle.std.specs.Prelude.{MatchResult, IsErrAnd}
use Rattle.reader.specs.Symbols.{stray, stray_byte, Flaw, placed}
use Rattle.reader.specs.Text.{Reads}
use Rattle.reader.specs.Refusals.{refusal_number}
use Rattle.reader.proofs.Tokens.{token_read, token_flawed, token_found, told_placed}
use Rattle.reader.proofs.cursor.Cursor.next.Goals as goal

pub returns-in_err-token-clause-read : goal.returns-in_err-token-clause-read
returns-in_err-token-clause-read c =
    let p = err_from_is_err_and c.from_residual.result c.from_residual.ensures.1 in
    let e = c.in_err-token.ensures in
    rw (p.1, p.2) (stray, e.0.0, e.0.1, subst (λ f. Flaw stray (refusal_number f)) (sym e.1) stray_byte)

pub returns-in_err-item-clause-read : goal.returns-in_err-item-clause-read
returns-in_err-item-clause-read c =
    let p = err_from_is_err_and c.from_residual-in_err-item.result c.from_residual-in_err-item.ensures.1 in
    let text = c.args.self.now.text.now in
    let t = c.in-Some.token in
    let e = token_found text c.args.self.now.pos c.in_ok-token.field-0 t c.in-Some.is c.in_ok-token.ensures in
    let f = c.in_err-item.field-0.0 in
    let r = c.map_err.result in
    let z : MatchResult c.token_lexeme.result (λ x. r ≡ Ok x) (λ f. IsErrAnd r (λ e. e ≡ placed t.place f)) = search rules in
    let m = MatchResult-at_err _ _ f c.in_err-item.was (told_placed t.place t.item c.token_lexeme.result r c.token_lexeme.ensures z) in
    let k = token_flawed text t.place t.item f.item e.1 m.1 in
    rw (p.1, p.2) (k.0, k.1, e.0 (placed f.place k.0 ∷ k.1) (subst (λ n. Reads t.place (drop t.place text) (placed n k.0 ∷ k.1)) (sym m.0) k.2), k.3)

pub returns-clause-read : goal.returns-clause-read
returns-clause-read c =
    let text = c.args.self.now.text.now in
    let t = c.in-Some.token in
    let e = token_found text c.args.self.now.pos c.in_ok-token.field-0 t c.in-Some.is c.in_ok-token.ensures in
    let r = c.map_err.result in
    let z : MatchResult c.token_lexeme.result (λ x. r ≡ Ok x) (λ f. IsErrAnd r (λ e. e ≡ placed t.place f)) = search rules in
    let m = MatchResult-at_ok _ _ c.in_ok-item.item c.in_ok-item.was (told_placed t.place t.item c.token_lexeme.result r c.token_lexeme.ensures z) in
    let k = token_read text t.place t.item c.in_ok-item.item e.1 m in
    ((λ zs r. e.0 _ (k.0 zs (subst (λ n. Reads (t.place + n) (drop (t.place + n) text) zs) c.width.ensures r))), k.1)
