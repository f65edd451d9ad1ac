use Rattle.text.proofs.put.+put_decimal.Given as goal

-- Each call has one digit fewer.
abbrev pub decreases-put_decimal : goal.decreases-put_decimal
decreases-put_decimal l = l.n
