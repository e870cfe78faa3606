mod ExactFindings
