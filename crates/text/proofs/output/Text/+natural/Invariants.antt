-- `Text::natural` puts a tenth of the number and then its last digit. The measure is the number.
use Rattle.text.proofs.output.Text.+natural.Given as goal

abbrev pub decreases-natural : goal.decreases-natural
decreases-natural l = l.n
