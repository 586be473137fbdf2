use Rattle.std.proofs.Common.{◌∙◌, ◌++◌, ◌/◌, ◌%◌, ap, sym, arith, append_assoc, List, ℕ}
use Rattle.std.specs.Fmt.{decimal}
use Rattle.itoa.proofs.Decimal.{pair, decimal_pair}
use Rattle.number_text.proofs.digits.put_four.Goals as goal

pub returns-else-n-lt100-clause-items : goal.returns-else-n-lt100-clause-items
returns-else-n-lt100-clause-items c =
    let n = c.args.n in
    let old = c.args.text.now.items in
    c.put_pair.ensures.items
    ∙ ap (λ (front : List ℕ). front ++ pair (n % 100)) c.put_two-else-n-lt100.ensures.items
    ∙ append_assoc old (decimal (n / 100)) (pair (n % 100))
    ∙ ap (λ (digits : List ℕ). old ++ digits) (sym (decimal_pair n c.if-n-lt100.false (omega (arith, c.requires.few))))
