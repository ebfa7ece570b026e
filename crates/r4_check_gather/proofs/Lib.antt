mod Gathered
